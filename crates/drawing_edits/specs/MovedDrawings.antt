-- Moves of a drawing: maps over its points, in whole tenths of a millimetre; x grows to the right,
-- y downwards.
use Rattle.std.specs.Prelude.{ℕ, ℤ, pos, ◌+ℤ◌, neg_ℤ, Option, Some, None, map}
use Rattle.std.specs.Int.{int_div_euclid}
use Rattle.design_edits.specs.declared.axis.Axis.{Axis}
use Rattle.design_edits.specs.Moves.{mirror_point, shift_point, turn_point}
use Rattle.design_model.specs.declared.bounds.Extent.{Extent}
use Rattle.design_model.specs.declared.point.Point.{Point}
use Rattle.design_model.specs.Extents.{extent_of_points}
use Rattle.design_model.specs.Points.{origin}
use Rattle.line_graph.specs.Drawings.{DrawingValue}
use Rattle.line_sections.specs.declared.spot.Spot.{Spot}
use Rattle.line_sections.specs.Lines.{LineValue, points_of_lines}
use Rattle.step_splitter.specs.Chains.{IsNeedlePoint}

-- A line with each point mapped.
abbrev pub with_moved_line : (Point → Point) → LineValue → LineValue
with_moved_line f line = record { block = line.block; points = map f line.points }

-- A spot with its point mapped.
abbrev pub with_moved_spot : (Point → Point) → Spot → Spot
with_moved_spot f spot = record { block = spot.block; at = f spot.at }

-- A drawing with each point mapped: those of its lines, of its starts and of its ends.
abbrev pub moved_drawing : (Point → Point) → DrawingValue → DrawingValue
moved_drawing f d = record d {
  lines = map (with_moved_line f) d.lines;
  starts = map (with_moved_spot f) d.starts;
  ends = map (with_moved_spot f) d.ends;
}

-- The shifted drawing.
abbrev pub shifted_drawing : ℤ → ℤ → DrawingValue → DrawingValue
shifted_drawing dx dy d = moved_drawing (shift_point dx dy) d

-- The turned drawing.
abbrev pub turned_drawing : ℕ → DrawingValue → DrawingValue
turned_drawing quarters d = moved_drawing (turn_point quarters) d

-- The mirrored drawing.
abbrev pub mirrored_drawing : Axis → DrawingValue → DrawingValue
mirrored_drawing a d = moved_drawing (mirror_point a) d

-- The middle of an extent, with halves rounded to the left and upwards. It is the origin for none.
abbrev pub middle_of : Option Extent → Point
middle_of None = origin
middle_of (Some extent) = record {
  x = int_div_euclid (extent.min.x +ℤ extent.max.x) (pos 2);
  y = int_div_euclid (extent.min.y +ℤ extent.max.y) (pos 2);
}

-- The middle of the extent of a drawing's points.
abbrev pub middle_of_drawing : DrawingValue → Point
middle_of_drawing d = middle_of (extent_of_points (points_of_lines d.lines))

-- The drawing, shifted so that its middle comes to the origin.
abbrev pub centred_drawing : DrawingValue → DrawingValue
centred_drawing d =
    let middle = middle_of_drawing d in shifted_drawing (neg_ℤ middle.x) (neg_ℤ middle.y) d

-- An extent whose corners are needle points.
pub record IsNeedleExtent (extent : Extent) : Type 0 where
  pub min : IsNeedlePoint extent.min
  pub max : IsNeedlePoint extent.max
