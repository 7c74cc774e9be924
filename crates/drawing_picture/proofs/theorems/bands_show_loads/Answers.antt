use Rattle.drawing_picture.proofs.BandLemmas.{bands_show}
use Rattle.drawing_picture.proofs.theorems.bands_show_loads.Goals as goal

pub returns : goal.returns
returns c = bands_show c.needles_lead_along.ensures
