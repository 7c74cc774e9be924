use Rattle.drawing_edits.proofs.LineDrawnLemmas.{lines_drawn}
use Rattle.drawing_edits.proofs.redraw_theorems.lines_within_limits_are_drawn.Goals as goal

pub returns : goal.returns
returns c = lines_drawn
