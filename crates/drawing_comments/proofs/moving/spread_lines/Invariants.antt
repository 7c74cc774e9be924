use Rattle.std.proofs.Common.{◌≡◌, ◌++◌, length}
use Rattle.drawing_comments.specs.MovedComments.{line_comments}
use Rattle.drawing_comments.proofs.moving.spread_lines.Given as goal

-- the comments so far, and those of the lines that are left
abbrev pub invariant-loop-left : goal.invariant-loop-left
invariant-loop-left l = l.moved ++ line_comments l.left l.rest ≡ line_comments l.comments l.counts

abbrev pub decreases-loop-left : goal.decreases-loop-left
decreases-loop-left l = length l.left
