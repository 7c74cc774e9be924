use Rattle.std.proofs.Common.{◌≡◌, ◌++◌}
use Rattle.drawing_comments.specs.MovedComments.{uncommented}
use Rattle.drawing_comments.proofs.moving.put_uncommented.Given as goal

-- the lines so far, and those that are left
abbrev pub invariant-loop-left : goal.invariant-loop-left
invariant-loop-left l = l.moved ++ uncommented l.left ≡ l.fn.moved ++ uncommented l.count

abbrev pub decreases-loop-left : goal.decreases-loop-left
decreases-loop-left l = l.left
