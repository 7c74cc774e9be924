use Rattle.sewing_edits.proofs.TieLawLemmas.{near_ends}
use Rattle.sewing_edits.proofs.tie_theorems.ties_are_near_ends.Goals as goal

pub returns : goal.returns
returns c = λ len thread is. near_ends len thread is
