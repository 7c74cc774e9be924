use Rattle.sewing_edits.proofs.ScaleLemmas.{nearest}
use Rattle.sewing_edits.proofs.needle_theorems.scales_to_nearest.Goals as goal

pub returns : goal.returns
returns c = λ percent z. nearest percent z
