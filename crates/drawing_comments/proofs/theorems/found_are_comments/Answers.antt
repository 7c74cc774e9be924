use Rattle.drawing_comments.proofs.CommentLemmas.{found_are_comments}
use Rattle.drawing_comments.proofs.theorems.found_are_comments.Goals as goal

pub returns : goal.returns
returns c = found_are_comments
