use Rattle.drawing_comments.proofs.CommentLemmas.{return_left_out, without_return_same}
use Rattle.drawing_comments.proofs.finding.without_return.Goals as goal

pub returns-then-last-eq13 : goal.returns-then-last-eq13
returns-then-last-eq13 c = return_left_out c.args.line.now c.if-last-eq13.true

pub returns-else-last-eq13 : goal.returns-else-last-eq13
returns-else-last-eq13 c = without_return_same c.args.line.now c.if-last-eq13.false
