use Rattle.std.proofs.Common.{None, false, refl}
use Rattle.design_model.proofs.ListLemmas.{false_true}
use Rattle.sewing_edits.proofs.CarryLemmas.{carried_far}
use Rattle.sewing_edits.proofs.float_theorems.carry_leaves_no_near_trim.Goals as goal

pub returns : goal.returns
returns c = λ limit acts. carried_far limit false None None acts (λ is. absurd (false_true is)) (λ is. refl)
