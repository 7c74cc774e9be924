use Rattle.met_drawings.proofs.AgainLemmas.{left_found, silence}
use Rattle.met_drawings.proofs.theorems.left_meetings_are_found.Goals as goal

pub returns-clause-found : goal.returns-clause-found
returns-clause-found c = left_found c.lines_in_order_are_drawn.ensures c.rounds_keep_lines_near.ensures.near

pub returns-clause-silence : goal.returns-clause-silence
returns-clause-silence c = silence c.lines_in_order_are_drawn.ensures c.rounds_keep_lines_near.ensures.near
