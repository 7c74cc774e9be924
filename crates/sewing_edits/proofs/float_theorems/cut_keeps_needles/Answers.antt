use Rattle.std.proofs.Common.{None}
use Rattle.sewing_edits.proofs.CutLemmas.{cut_needles}
use Rattle.sewing_edits.proofs.float_theorems.cut_keeps_needles.Goals as goal

pub returns : goal.returns
returns c = λ limit acts. cut_needles limit None acts
