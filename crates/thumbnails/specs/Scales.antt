-- Where a needle is in a thumbnail of 48 by 38 points. A design is scaled to fit 40 by 30 of them,
-- in the middle, with four points on each side of it (own).
use Rattle.std.specs.Prelude.{ℕ, ℤ, ◌+◌, ◌-◌, ◌*◌, ◌/◌, ◌-ℤ◌, unsigned_abs, max, min, Option, Some, None}
use Rattle.design_model.specs.declared.bounds.Extent.{Extent}
use Rattle.design_model.specs.declared.point.Point.{Point}
use Rattle.design_model.specs.Extents.{extent_height, extent_width}
use Rattle.design_model.specs.Points.{origin}
use Rattle.thumbnails.specs.declared.lit_points.ThumbPoint.{ThumbPoint}
use Rattle.thumbnails.specs.declared.scaling.TheConstants.{ACROSS, BORDER, DOWN}
use Rattle.thumbnails.specs.declared.scaling.View.{View}

-- The length that takes all of the room, on the longer axis: its product with the other axis' room.
-- A design without a size has 1.
abbrev pub full_length : Option Extent → ℕ
full_length extent = max (max (extent_width extent * DOWN) (extent_height extent * ACROSS)) 1

-- A length in points.
abbrev pub shrunk_to : (full length : ℕ) → ℕ
shrunk_to full length = length * (ACROSS * DOWN) / full

-- The points before a design that takes so many of a room.
abbrev pub points_before : (room taken : ℕ) → ℕ
points_before room taken = BORDER + (room - taken) / 2

-- The least point of an extent; the origin without one.
abbrev pub least_point : Option Extent → Point
least_point None = origin
least_point (Some extent) = extent.min

-- How a design with an extent is shown.
abbrev pub view_of : Option Extent → View
view_of extent = record {
  least = least_point extent;
  full = full_length extent;
  left = points_before ACROSS (shrunk_to (full_length extent) (extent_width extent));
  above = points_before DOWN (shrunk_to (full_length extent) (extent_height extent));
}

-- A column or a row, before which are some points: where a coordinate is after the least one.
abbrev pub place_of : (full before most : ℕ) → (coordinate least : ℤ) → ℕ
place_of full before most coordinate least =
    min (before + shrunk_to full (unsigned_abs (coordinate -ℤ least))) most

-- Where a needle is.
abbrev pub thumb_point : View → Point → ThumbPoint
thumb_point view p = record {
  column = place_of view.full view.left 47 p.x view.least.x;
  row = place_of view.full view.above 37 p.y view.least.y;
}
