use Rattle.std.proofs.Common.{None}
use Rattle.sewing_edits.proofs.MergeLemmas.{merged_ends}
use Rattle.sewing_edits.proofs.needle_theorems.merge_keeps_ends.Goals as goal

pub returns : goal.returns
returns c = λ limit acts. merged_ends limit None acts
