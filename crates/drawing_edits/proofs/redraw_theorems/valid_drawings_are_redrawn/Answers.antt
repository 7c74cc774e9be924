use Rattle.drawing_edits.proofs.ValidRedrawLemmas.{valid_redrawn}
use Rattle.drawing_edits.proofs.redraw_theorems.valid_drawings_are_redrawn.Goals as goal

pub returns : goal.returns
returns c = valid_redrawn c.joined_drawings_stay.ensures
