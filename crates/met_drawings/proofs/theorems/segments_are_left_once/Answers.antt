use Rattle.met_drawings.proofs.LeftLemmas.{segments_left_once}
use Rattle.met_drawings.proofs.OnceLemmas.{uncopied_stay}
use Rattle.met_drawings.proofs.theorems.segments_are_left_once.Goals as goal

pub returns-clause-once : goal.returns-clause-once
returns-clause-once c = segments_left_once

pub returns-clause-stay : goal.returns-clause-stay
returns-clause-stay c = uncopied_stay
