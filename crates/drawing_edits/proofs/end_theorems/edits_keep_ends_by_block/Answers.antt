use Rattle.drawing_edits.proofs.EndOrderLemmas.{edits_keep_order}
use Rattle.drawing_edits.proofs.end_theorems.edits_keep_ends_by_block.Goals as goal

pub returns : goal.returns
returns c = edits_keep_order
