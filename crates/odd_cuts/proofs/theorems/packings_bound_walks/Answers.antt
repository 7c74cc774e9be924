use Rattle.odd_cuts.proofs.Duality.{bounds_walks}
use Rattle.odd_cuts.proofs.theorems.packings_bound_walks.Goals as goal

pub returns : goal.returns
returns c = bounds_walks
