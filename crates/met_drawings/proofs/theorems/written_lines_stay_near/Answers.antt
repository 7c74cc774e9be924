use Rattle.met_drawings.proofs.AgainLemmas.{written_near}
use Rattle.met_drawings.proofs.theorems.written_lines_stay_near.Goals as goal

pub returns : goal.returns
returns c = written_near c.lines_in_order_are_drawn.ensures c.rounds_keep_lines_near.ensures.near
    c.rounds_keep_lines_near.ensures.points
