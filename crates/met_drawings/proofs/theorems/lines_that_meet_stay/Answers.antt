use Rattle.met_drawings.proofs.AgainLemmas.{second_same}
use Rattle.met_drawings.proofs.theorems.lines_that_meet_stay.Goals as goal

pub returns : goal.returns
returns c = second_same c.lines_in_order_are_drawn.ensures c.rounds_keep_lines_near.ensures.near
    c.lines_at_rest_stay.ensures.drawn c.lines_at_rest_stay.ensures.stay
