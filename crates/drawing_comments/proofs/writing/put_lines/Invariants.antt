use Rattle.std.proofs.Common.{◌≡◌, ◌++◌, length}
use Rattle.text_parts.specs.Parts.{parts_between}
use Rattle.drawing_comments.specs.CommentedTexts.{lines_with}
use Rattle.drawing_comments.proofs.writing.put_lines.Given as goal

-- what is written so far, and the lines that are left with their comments, are all lines with theirs
abbrev pub invariant-loop-line : goal.invariant-loop-line
invariant-loop-line l = l.written ++ lines_with (record l.comments { blocks = l.blocks; lines = l.lines }) (parts_between 10 l.rest)
    ≡ l.fn.written ++ lines_with l.comments (parts_between 10 l.text)

abbrev pub decreases-loop-line : goal.decreases-loop-line
decreases-loop-line l = length l.rest
