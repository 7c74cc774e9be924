use Rattle.std.proofs.Common.{◌≡◌, length}
use Rattle.text_parts.specs.Parts.{parts_between}
use Rattle.drawing_comments.specs.CommentedTexts.{comments_from, comments_of}
use Rattle.drawing_comments.proofs.finding.comments_in.Given as goal

-- what was found, and the lines that are left, have the comments of the text
abbrev pub invariant-loop-line : goal.invariant-loop-line
invariant-loop-line l = comments_from l.found (parts_between 10 l.rest) ≡ comments_of l.text

abbrev pub decreases-loop-line : goal.decreases-loop-line
decreases-loop-line l = length l.rest
