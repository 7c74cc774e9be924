use Rattle.std.proofs.Common.{None}
use Rattle.sewing_edits.proofs.BeanLemmas.{beaned_order}
use Rattle.sewing_edits.proofs.needle_theorems.bean_keeps_order.Goals as goal

pub returns : goal.returns
returns c = λ times acts ordered. beaned_order times None acts ordered
