-- Numbers of points in a segment: a point that is farther along has a greater number. Coordinates
-- count from the least one that a needle reaches, in tenths of a millimetre.
use Rattle.std.specs.Prelude.{ℕ, pos, ◌+◌, ◌*◌, ◌/◌, ◌%◌, ◌-ℤ◌}
use Rattle.std.specs.Int.{abs_diff}
use Rattle.design_model.specs.declared.point.Point.{Point}
use Rattle.drawing_review.specs.declared.grid_point.GridPoint.{GridPoint}

-- How far a point is from the point where a segment begins: the sum over both axes.
abbrev pub distance_along : GridPoint → GridPoint → ℕ
distance_along a p = abs_diff a.x p.x + abs_diff a.y p.y

-- The number of a point in a segment that begins at a: how far along, then its coordinates.
abbrev pub place_number_of : GridPoint → GridPoint → ℕ
place_number_of a p = distance_along a p * 4294967296 + (p.x * 65536 + p.y)

-- The point with a number.
abbrev pub point_of_place : ℕ → Point
point_of_place n = record {
  x = pos (n / 65536 % 65536) -ℤ pos 30000;
  y = pos (n % 65536) -ℤ pos 30000;
}
