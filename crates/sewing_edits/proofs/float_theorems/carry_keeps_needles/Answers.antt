use Rattle.std.proofs.Common.{None, false}
use Rattle.sewing_edits.proofs.CarryLemmas.{carried_needles}
use Rattle.sewing_edits.proofs.float_theorems.carry_keeps_needles.Goals as goal

pub returns : goal.returns
returns c = λ limit acts. carried_needles limit false None acts
