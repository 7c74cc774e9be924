use Rattle.drawing_edits.proofs.KeptEndLemmas.{placed_kept}
use Rattle.drawing_edits.proofs.end_theorems.placed_ends_are_kept.Goals as goal

pub returns : goal.returns
returns c = placed_kept
