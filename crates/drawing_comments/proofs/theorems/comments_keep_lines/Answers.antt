use Rattle.drawing_comments.proofs.CommentLemmas.{comments_keep_lines}
use Rattle.drawing_comments.proofs.theorems.comments_keep_lines.Goals as goal

pub returns : goal.returns
returns c = comments_keep_lines
