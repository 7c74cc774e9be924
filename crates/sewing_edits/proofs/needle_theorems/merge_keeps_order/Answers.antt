use Rattle.std.proofs.Common.{None}
use Rattle.sewing_edits.proofs.MergeLemmas.{merged_order}
use Rattle.sewing_edits.proofs.needle_theorems.merge_keeps_order.Goals as goal

pub returns : goal.returns
returns c = λ limit acts ordered. merged_order limit None acts ordered
