use Rattle.drawing_comments.proofs.MovedLemmas.{parts_keep_comments}
use Rattle.drawing_comments.proofs.theorems.parts_keep_comments.Goals as goal

pub returns : goal.returns
returns c = parts_keep_comments
