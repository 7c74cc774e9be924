use Rattle.std.proofs.Common.{None}
use Rattle.sewing_edits.proofs.CutLemmas.{cut_within}
use Rattle.sewing_edits.proofs.float_theorems.cut_leaves_no_long_float.Goals as goal

pub returns : goal.returns
returns c = λ limit acts. cut_within limit None acts
