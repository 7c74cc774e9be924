-- Bounds of points, and what a point of a line that is worked on stands for: points as drawn,
-- within bounds, or none, where it was only put into a segment. Coordinates count from the least
-- one that a needle reaches, in tenths of a millimetre.
use Rattle.std.specs.Prelude.{ℕ, ◌+◌, min, max, Bool, ◌&&◌, nat_le, Option, Some, None}
use Rattle.drawing_review.specs.declared.grid_point.GridPoint.{GridPoint}
use Rattle.meeting_rounds.specs.declared.point_bounds.PointBounds.{PointBounds}

-- The bounds of one point.
abbrev pub bounds_of_point : GridPoint → PointBounds
bounds_of_point p = record { least = p; greatest = p }

-- The bounds of all points that two bounds have.
abbrev pub joined_bounds : PointBounds → PointBounds → PointBounds
joined_bounds a b = record {
  least = record { x = min a.least.x b.least.x; y = min a.least.y b.least.y };
  greatest = record { x = max a.greatest.x b.greatest.x; y = max a.greatest.y b.greatest.y };
}

-- What two points stand for together.
abbrev pub united_drawn : Option PointBounds → Option PointBounds → Option PointBounds
united_drawn None b = b
united_drawn (Some a) None = Some a
united_drawn (Some a) (Some b) = Some (joined_bounds a b)

-- A coordinate is within a distance of all between a least and a greatest one.
abbrev pub is_within_reach : (reach least greatest n : ℕ) → Bool
is_within_reach reach least greatest n = nat_le greatest (n + reach) && nat_le n (least + reach)

-- A point is within a distance of all points that bounds have, on the larger axis.
abbrev pub reaches_bounds : ℕ → PointBounds → GridPoint → Bool
reaches_bounds reach bounds p = is_within_reach reach bounds.least.x bounds.greatest.x p.x
    && is_within_reach reach bounds.least.y bounds.greatest.y p.y
