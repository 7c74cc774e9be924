use Rattle.drawing_comments.proofs.OrderedLemmas.{cuts_keep_comments}
use Rattle.drawing_comments.proofs.theorems.cuts_keep_comments.Goals as goal

pub returns : goal.returns
returns c = cuts_keep_comments
