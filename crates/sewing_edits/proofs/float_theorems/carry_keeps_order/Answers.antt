use Rattle.std.proofs.Common.{None, false}
use Rattle.design_model.proofs.ListLemmas.{false_true}
use Rattle.sewing_edits.proofs.CarryLemmas.{carried_order}
use Rattle.sewing_edits.proofs.float_theorems.carry_keeps_order.Goals as goal

pub returns : goal.returns
returns c = λ limit acts ordered. carried_order limit false None acts (λ is. absurd (false_true is)) ordered
