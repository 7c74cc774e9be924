use Rattle.odd_cuts.proofs.ExactWalks.{walks_exact}
use Rattle.odd_cuts.proofs.fault_theorems.walk_faults_are_exact.Goals as goal

pub returns : goal.returns
returns c = walks_exact
