-- The points that are lit: a straight line of points for each stitch.
use Rattle.std.specs.Prelude.{ℕ, zero, suc, ◌+◌, ◌-◌, ◌*◌, ◌/◌, ◌==◌, ◌&&◌, Bool, true, false, nat_lt, List, get_or, max, min, if◌then◌else◌}
use Rattle.thumbnails.specs.declared.lit_points.TheConstants.{SIDE}
use Rattle.thumbnails.specs.declared.lit_points.ThumbPoint.{ThumbPoint}

-- Points, as the test whether a point is one of them.
abbrev pub ThumbPoints : Type 0
ThumbPoints = ThumbPoint → Bool

-- The points that a table has, row by row.
abbrev pub points_in_cells : List Bool → ThumbPoints
points_in_cells cells p = nat_lt p.column SIDE && get_or cells (p.row * SIDE + p.column) false

-- No point.
abbrev pub no_points : ThumbPoints
no_points point = false

-- Two points are one.
abbrev pub is_same_thumb_point : ThumbPoint → ThumbPoint → Bool
is_same_thumb_point a b = a.column == b.column && a.row == b.row

-- Points with one more.
abbrev pub with_thumb_point : ThumbPoints → ThumbPoint → ThumbPoints
with_thumb_point points one other = if is_same_thumb_point one other then true else points other

-- The difference of two numbers.
abbrev pub difference_of : ℕ → ℕ → ℕ
difference_of a b = max a b - min a b

-- The steps of a straight line: the difference of its columns or of its rows, whichever is
-- greater.
abbrev pub length_of_line : ThumbPoint → ThumbPoint → ℕ
length_of_line a b = max (difference_of a.column b.column) (difference_of a.row b.row)

-- The coordinate after some of the steps from one to another, rounded to the nearest, and within
-- the thumbnail.
abbrev pub between_steps : (steps step a b : ℕ) → ℕ
between_steps steps step a b = if steps == 0 then min a 47
    else min ((a * (steps - step) + b * step + steps / 2) / steps) 47

-- The point after some of the steps of a line.
abbrev pub point_of_line : (steps step : ℕ) → ThumbPoint → ThumbPoint → ThumbPoint
point_of_line steps step a b = record {
  column = between_steps steps step a.column b.column;
  row = between_steps steps step a.row b.row;
}

-- Points with those of a line from a step on, of which some are left.
abbrev pub with_line_from : ThumbPoints → ThumbPoint → ThumbPoint → (step left : ℕ) → ThumbPoints
with_line_from points a b step zero = points
with_line_from points a b step (suc left) =
    with_line_from (with_thumb_point points (point_of_line (length_of_line a b) step a b)) a b
    (step + 1) left

-- Points with those of a line, both ends included.
abbrev pub with_thumb_line : ThumbPoints → ThumbPoint → ThumbPoint → ThumbPoints
with_thumb_line points a b = with_line_from points a b 0 (length_of_line a b + 1)
