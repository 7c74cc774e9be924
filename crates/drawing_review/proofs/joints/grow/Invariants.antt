use Rattle.std.proofs.Common.{◌≡◌, ◌+◌, ◌<◌, ◌≤◌, [], List, length, true, false, vec_len}
use Rattle.drawing_review.specs.declared.grid_point.GridPoint.{GridPoint}
use Rattle.drawing_review.specs.declared.joints.Joint.{Joint}
use Rattle.drawing_review.specs.JoinedPoints.{AreTestedAlike, IsGrowing, is_among}
use Rattle.drawing_review.proofs.joints.grow.Given as goal

-- the points so far, with the joints that are left and those for later
abbrev pub invariant-loop-t : goal.invariant-loop-t
invariant-loop-t l = record {
  kept : (joints : List Joint) (p : GridPoint) → IsGrowing joints p l.fn.left.items [] l.fn.joined
      → IsGrowing joints p l.left.items l.later.items l.joined;
  most : length l.left.items + length l.later.items ≤ length l.fn.left.items;
  shorter : l.has_grown ≡ true → length l.left.items + length l.later.items < length l.fn.left.items;
  ended : l.has_grown ≡ false → AreTestedAlike (is_among l.joined) l.later.items;
}

abbrev pub decreases-loop-t : goal.decreases-loop-t
decreases-loop-t l = vec_len l.left
