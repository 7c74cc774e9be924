use Rattle.drawing_edits.proofs.DrawnAgainLemmas.{drawn_as_they_are}
use Rattle.drawing_edits.proofs.redraw_theorems.lines_in_order_are_drawn.Goals as goal

pub returns : goal.returns
returns c = drawn_as_they_are
