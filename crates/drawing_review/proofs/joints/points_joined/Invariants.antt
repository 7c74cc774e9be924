use Rattle.std.proofs.Common.{[], length, map}
use Rattle.drawing_review.specs.JoinedPoints.{IsGrowing}
use Rattle.drawing_review.specs.Joints.{joint_of}
use Rattle.drawing_review.proofs.joints.points_joined.Given as goal

-- the points so far, with the joints that are left
abbrev pub invariant-loop-left : goal.invariant-loop-left
invariant-loop-left l = IsGrowing (map joint_of l.segments) l.fn.p l.left.items [] l.joined

abbrev pub decreases-loop-left : goal.decreases-loop-left
decreases-loop-left l = length l.left.items
