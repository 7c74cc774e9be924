-- Where parts of lines touch: points near a segment, crossings, and segments that share more than a
-- point. The whole points at which lines can meet there are weighted means, rounded to the nearest.
-- Lengths are whole tenths of a millimetre.
use Rattle.std.specs.Prelude.{ℕ, suc, zero, ◌+◌, ◌-◌, ◌*◌, ◌/◌, ◌==◌, min, max, Bool, not, ◌&&◌, ◌||◌, nat_le, nat_lt, ◌-ℤ◌, pos, if◌then◌else◌}
use Rattle.std.specs.Int.{abs_diff}
use Rattle.design_model.specs.declared.point.Point.{Point}
use Rattle.drawing_review.specs.declared.grid_point.GridPoint.{GridPoint}
use Rattle.drawing_review.specs.declared.segment.LineSegment.{LineSegment}
use Rattle.drawing_review.specs.Meetings.{clockwise_sum, counter_sum, is_near}
use Rattle.line_meetings.specs.Parts.{rank_of}

-- The point of a drawing whose coordinates count from the least one that a needle reaches.
abbrev pub drawn_point : GridPoint → Point
drawn_point p = record { x = pos p.x -ℤ pos 30000; y = pos p.y -ℤ pos 30000 }

-- The distance of two points, on the larger axis.
abbrev pub distance_of : GridPoint → GridPoint → ℕ
distance_of p q = max (abs_diff p.x q.x) (abs_diff p.y q.y)

-- Two points are within the gap of each other.
abbrev pub are_close : ℕ → GridPoint → GridPoint → Bool
are_close gap p q = nat_le (distance_of p q) gap

-- A point lies beside a segment: within the gap of it, and not within the gap of its ends.
abbrev pub is_beside : ℕ → GridPoint → LineSegment → Bool
is_beside gap p t = is_near gap p t && (not (are_close gap p t.a) && not (are_close gap p t.b))

-- The least distance within which a segment comes of a point, among the distance and the ones after
-- it up to the gap, of which there are so many.
abbrev pub least_near : (more distance : ℕ) → GridPoint → LineSegment → ℕ
least_near zero distance p t = distance
least_near (suc more) distance p t =
    if is_near distance p t then distance else least_near more (distance + 1) p t

-- The mean of two coordinates with weights, rounded to the nearest; or the first one, where there
-- is no weight.
abbrev pub mean_coordinate : (m n by_m by_n : ℕ) → ℕ
mean_coordinate m n by_m by_n =
    if by_m + by_n == 0 then m
    else min 60000 ((2 * (m * by_m + n * by_n) + (by_m + by_n)) / (2 * (by_m + by_n)))

-- The mean of two points with weights.
abbrev pub mean_point : GridPoint → GridPoint → (by_p by_q : ℕ) → GridPoint
mean_point p q by_p by_q = record {
  x = mean_coordinate p.x q.x by_p by_q;
  y = mean_coordinate p.y q.y by_p by_q;
}

-- The square of a segment's length.
abbrev pub squared_length : LineSegment → ℕ
squared_length t = abs_diff t.a.x t.b.x * abs_diff t.a.x t.b.x
    + abs_diff t.a.y t.b.y * abs_diff t.a.y t.b.y

-- How far along a segment from a to b a point lies, in parts of the squared length: the dot product
-- of the moves from a to b and from a to p, or 0 before a.
abbrev pub length_along : LineSegment → GridPoint → ℕ
length_along t p = (p.x * t.b.x + t.a.x * t.a.x + (p.y * t.b.y + t.a.y * t.a.y))
    - (p.x * t.a.x + t.a.x * t.b.x + (p.y * t.a.y + t.a.y * t.b.y))

-- The nearest whole point on a segment to a point.
abbrev pub nearest_on : LineSegment → GridPoint → GridPoint
nearest_on t p = let along = min (length_along t p) (squared_length t) in
    mean_point t.a t.b (squared_length t - along) along

-- The size of the cross product of a segment and the move from its end a to a point.
abbrev pub side_of : LineSegment → GridPoint → ℕ
side_of s p = abs_diff (clockwise_sum s p) (counter_sum s p)

-- The nearest whole point to where the line through s cuts the segment t.
abbrev pub crossing_of : LineSegment → LineSegment → GridPoint
crossing_of s t = mean_point t.a t.b (side_of s t.b) (side_of s t.a)

-- Both ends of the segment t lie on one side of the line through s, and neither on it.
abbrev pub lies_on_side : LineSegment → LineSegment → Bool
lies_on_side s t =
    (nat_lt (clockwise_sum s t.a) (counter_sum s t.a)
    && nat_lt (clockwise_sum s t.b) (counter_sum s t.b))
    || (nat_lt (counter_sum s t.a) (clockwise_sum s t.a)
    && nat_lt (counter_sum s t.b) (clockwise_sum s t.b))

-- The ends of a segment lie on the line through another.
abbrev pub is_along : LineSegment → LineSegment → Bool
is_along s t = clockwise_sum s t.a == counter_sum s t.a && clockwise_sum s t.b == counter_sum s t.b

-- Where what two segments on one line share begins and ends: the later one of their first ends, and
-- the earlier one of their second ends.
abbrev pub shared_start : LineSegment → LineSegment → GridPoint
shared_start s t = if nat_lt (rank_of s.a) (rank_of t.a) then t.a else s.a

abbrev pub shared_end : LineSegment → LineSegment → GridPoint
shared_end s t = if nat_lt (rank_of t.b) (rank_of s.b) then t.b else s.b

-- Two segments lie on one line and share more than a point.
abbrev pub do_overlap : LineSegment → LineSegment → Bool
do_overlap s t = is_along s t && nat_lt (rank_of (shared_start s t)) (rank_of (shared_end s t))
