-- Strips: what lies between two points across a direction. How far a point lies across it is the
-- difference of two sums of products.
use Rattle.std.specs.Prelude.{ℕ, ◌+◌, ◌*◌, Bool, ◌&&◌, ◌||◌, nat_lt, if◌then◌else◌}
use Rattle.drawing_review.specs.declared.grid_point.GridPoint.{GridPoint}
use Rattle.drawing_review.specs.declared.segment.LineSegment.{LineSegment}
use Rattle.drawing_review.specs.declared.strip.Direction.{Direction}
use Rattle.drawing_review.specs.declared.strip.Strip.{Strip}

-- The positive products in the cross product of a direction and a point: y grows downwards, and
-- points to the right have more of them.
abbrev pub right_sum : Direction → GridPoint → ℕ
right_sum d p = d.to.x * p.y + d.from.y * p.x

-- The negative products in the cross product of a direction and a point.
abbrev pub left_sum : Direction → GridPoint → ℕ
left_sum d p = d.from.x * p.y + d.to.y * p.x

-- The point p lies further to the right of a direction than q.
abbrev pub is_right_of : Direction → (p q : GridPoint) → Bool
is_right_of d p q = nat_lt (right_sum d q + left_sum d p) (right_sum d p + left_sum d q)

-- The point 0 0.
abbrev pub least_point : GridPoint
least_point = record { x = 0; y = 0 }

-- The strip of the least point alone, along no direction.
abbrev pub least_strip : Strip
least_strip = record {
  along = record { from = least_point; to = least_point };
  right = least_point;
  left = least_point;
}

-- The strip along a segment that has its end a alone.
abbrev pub strip_along : LineSegment → Strip
strip_along s = record { along = record { from = s.a; to = s.b }; right = s.a; left = s.a }

-- A segment lies beside a strip: both ends on one side of it.
abbrev pub is_beside_strip : Strip → LineSegment → Bool
is_beside_strip strip s =
    (is_right_of strip.along s.a strip.right && is_right_of strip.along s.b strip.right)
    || (is_right_of strip.along strip.left s.a && is_right_of strip.along strip.left s.b)

-- The least strip along the same direction that has a point as well.
abbrev pub strip_with : Strip → GridPoint → Strip
strip_with strip p = record {
  along = strip.along;
  right = if is_right_of strip.along p strip.right then p else strip.right;
  left = if is_right_of strip.along strip.left p then p else strip.left;
}
