use Rattle.drawing_edits.proofs.KeptEndLemmas.{redrawn_kept}
use Rattle.drawing_edits.proofs.end_theorems.redrawn_has_ends.Goals as goal

pub returns : goal.returns
returns c = redrawn_kept
