use Rattle.odd_cuts.proofs.Duality.{proves_least}
use Rattle.odd_cuts.proofs.theorems.packings_prove_least.Goals as goal

pub returns : goal.returns
returns c = proves_least
