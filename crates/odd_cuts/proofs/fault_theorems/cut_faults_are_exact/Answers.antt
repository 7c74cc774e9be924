use Rattle.odd_cuts.proofs.ExactCuts.{cuts_exact}
use Rattle.odd_cuts.proofs.fault_theorems.cut_faults_are_exact.Goals as goal

pub returns : goal.returns
returns c = cuts_exact
