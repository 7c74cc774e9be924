use Rattle.std.proofs.Common.{None}
use Rattle.sewing_edits.proofs.CutLemmas.{cut_order}
use Rattle.sewing_edits.proofs.float_theorems.cut_keeps_order.Goals as goal

pub returns : goal.returns
returns c = λ limit acts ordered. cut_order limit None acts ordered
