use Rattle.sewing_edits.proofs.TieLawLemmas.{few_added}
use Rattle.sewing_edits.proofs.tie_theorems.points_get_few_needles.Goals as goal

pub returns : goal.returns
returns c = λ len thread p is. few_added len thread p is
