use Rattle.drawing_comments.proofs.CommentLemmas.{line_put}
use Rattle.drawing_comments.proofs.writing.put_lines.Goals as goal

pub loop-line-preserved : goal.loop-line-preserved
loop-line-preserved c = rw (c.in_ok-put_line.ensures, c.past-blocks.ensures, c.past-lines.ensures, c.first_mark-mark.ensures)
    (line_put c.loop-line.written _ c.in-Some.line.now c.in-Some.after.now
    (record c.args.comments.now { blocks = c.loop-line.blocks.now; lines = c.loop-line.lines.now })
    (rw c.in-Some.ensures.some at c.loop-line.invariant))
