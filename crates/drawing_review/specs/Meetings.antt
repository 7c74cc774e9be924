-- Where segments meet: points near a segment, and crossings. The side of a segment on
-- which a point lies is the sign of a cross product, which is the difference of two sums of
-- products. Lengths are whole tenths of a millimetre.
use Rattle.std.specs.Prelude.{ℕ, ◌+◌, ◌*◌, ◌==◌, Bool, not, ◌&&◌, ◌||◌, nat_le, nat_lt}
use Rattle.std.specs.Int.{abs_diff}
use Rattle.drawing_review.specs.declared.grid_point.GridPoint.{GridPoint}
use Rattle.drawing_review.specs.declared.segment.LineSegment.{LineSegment}
use Rattle.drawing_review.specs.Frames.{are_apart, frame_around}

-- The positive products in the cross product of the segment from a to b and the move from a to p.
abbrev pub clockwise_sum : LineSegment → GridPoint → ℕ
clockwise_sum s p = s.b.x * p.y + (s.b.y * s.a.x + s.a.y * p.x)

-- The negative products in the cross product of the segment from a to b and the move from a to p.
abbrev pub counter_sum : LineSegment → GridPoint → ℕ
counter_sum s p = s.b.x * s.a.y + (s.a.x * p.y + s.b.y * p.x)

-- The cross product at which a point is just within the gap of the line through a segment, on the
-- larger axis.
abbrev pub reach_of : ℕ → LineSegment → ℕ
reach_of gap s = gap * abs_diff s.a.x s.b.x + gap * abs_diff s.a.y s.b.y

-- A segment comes within the gap of a point, on the larger axis: it meets the square around the
-- point. The frames meet, and the square isn't on one side of the segment. With the gap 0 the point
-- lies on the segment.
abbrev pub is_near : ℕ → GridPoint → LineSegment → Bool
is_near gap p s = not (are_apart (frame_around gap p) s.frame)
    && nat_le (abs_diff (clockwise_sum s p) (counter_sum s p)) (reach_of gap s)

-- The ends of the segment t lie on two sides of the line through s, and neither on it.
abbrev pub lies_between : LineSegment → LineSegment → Bool
lies_between s t =
    (nat_lt (clockwise_sum s t.a) (counter_sum s t.a)
    && nat_lt (counter_sum s t.b) (clockwise_sum s t.b))
    || (nat_lt (counter_sum s t.a) (clockwise_sum s t.a)
    && nat_lt (clockwise_sum s t.b) (counter_sum s t.b))

-- Two segments cross inside both: neither has an end on the other.
abbrev pub cross_inside : LineSegment → LineSegment → Bool
cross_inside s t = not (are_apart s.frame t.frame) && (lies_between s t && lies_between t s)

-- Two points are the same.
abbrev pub is_same_grid_point : GridPoint → GridPoint → Bool
is_same_grid_point p q = p.x == q.x && p.y == q.y
