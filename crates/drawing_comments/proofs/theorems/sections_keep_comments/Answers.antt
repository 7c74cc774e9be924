use Rattle.drawing_comments.proofs.OrderedLemmas.{sections_keep_comments}
use Rattle.drawing_comments.proofs.theorems.sections_keep_comments.Goals as goal

pub returns : goal.returns
returns c = sections_keep_comments
