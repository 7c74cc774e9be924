use Rattle.drawing_picture.proofs.FaultLemmas.{first_fault_is}
use Rattle.drawing_picture.proofs.certificate_check.first_fault.Goals as goal

pub returns : goal.returns
returns c = first_fault_is _ _ _ _ _ c.in_ok-given.ensures.verdict c.before_acts.ensures
