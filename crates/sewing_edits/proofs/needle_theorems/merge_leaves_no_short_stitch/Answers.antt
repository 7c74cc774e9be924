use Rattle.std.proofs.Common.{None}
use Rattle.sewing_edits.proofs.MergeLemmas.{merged_long}
use Rattle.sewing_edits.proofs.needle_theorems.merge_leaves_no_short_stitch.Goals as goal

pub returns : goal.returns
returns c = λ limit acts. merged_long limit None acts
