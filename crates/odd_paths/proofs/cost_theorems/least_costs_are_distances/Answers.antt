use Rattle.odd_paths.proofs.DistanceLemmas.{are_distances}
use Rattle.odd_paths.proofs.cost_theorems.least_costs_are_distances.Goals as goal

pub returns : goal.returns
returns c = are_distances
