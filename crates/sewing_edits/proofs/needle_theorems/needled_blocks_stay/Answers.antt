use Rattle.sewing_edits.proofs.BlockLemmas.{blocks_stay}
use Rattle.sewing_edits.proofs.needle_theorems.needled_blocks_stay.Goals as goal

pub returns : goal.returns
returns c = λ acts first later is. blocks_stay acts first later is
