use Rattle.std.proofs.Common.{◌≡◌, ◌++◌, drop, map}
use Rattle.drawing_review.specs.Joints.{joint_of}
use Rattle.drawing_review.proofs.joints.joints.Given as goal

-- the joints so far, and those of the segments that are left, are all
abbrev pub invariant-loop-t : goal.invariant-loop-t
invariant-loop-t l = l.joints.items ++ map joint_of (drop l.t-index l.segments) ≡ map joint_of l.segments
