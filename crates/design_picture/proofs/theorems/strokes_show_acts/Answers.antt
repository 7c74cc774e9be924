use Rattle.design_picture.proofs.ShownLemmas.{strokes_shown}
use Rattle.design_picture.proofs.theorems.strokes_show_acts.Goals as goal

pub returns : goal.returns
returns c = strokes_shown
