use Rattle.sewing_edits.proofs.TieLawLemmas.{no_longer}
use Rattle.sewing_edits.proofs.tie_theorems.ties_lengthen_no_stitch.Goals as goal

pub returns : goal.returns
returns c = λ square len thread is limit within. no_longer square len thread is limit within
