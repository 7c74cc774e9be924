-- Lines that are worked on. Each point of one has the segment as drawn that leads on from it, and
-- the bounds of the points as drawn that it stands for.
use Rattle.std.specs.Prelude.{List, [], ◌∷◌, map, Some}
use Rattle.design_model.specs.declared.point.Point.{Point}
use Rattle.drawing_review.specs.Frames.{grid_point}
use Rattle.line_sections.specs.Lines.{LineValue}
use Rattle.meeting_rounds.specs.PointBounds.{bounds_of_point}
use Rattle.meeting_rounds.specs.declared.tracked_lines.TrackedLine.{TrackedLine}
use Rattle.meeting_rounds.specs.declared.tracked_lines.TrackedPoint.{TrackedPoint}

-- A point of a line as it is drawn, from which a segment leads to another.
abbrev pub tracked_point : (p to : Point) → TrackedPoint
tracked_point p to = record {
  at = p;
  from = p;
  to = to;
  drawn = Some (bounds_of_point (grid_point p));
}

-- The points of a line as it is drawn, from p on. From the last one no segment leads on.
abbrev pub tracked_from : Point → List Point → List TrackedPoint
tracked_from p [] = tracked_point p p ∷ []
tracked_from p (q ∷ rest) = tracked_point p q ∷ tracked_from q rest

-- The points of a line as it is drawn.
abbrev pub tracked_points : List Point → List TrackedPoint
tracked_points [] = []
tracked_points (p ∷ rest) = tracked_from p rest

-- A line as it is drawn, to be worked on.
abbrev pub tracked_line : LineValue → TrackedLine
tracked_line line = record { block = line.block; points = tracked_points line.points }

-- Lines as they are drawn, to be worked on.
abbrev pub tracked_lines : List LineValue → List TrackedLine
tracked_lines lines = map tracked_line lines

-- A line through the points of one that is worked on.
abbrev pub line_as_worked : TrackedLine → LineValue
line_as_worked line = record { block = line.block; points = map (λ p. p.at) line.points }

-- The lines through the points of those that are worked on.
abbrev pub lines_as_worked : List TrackedLine → List LineValue
lines_as_worked lines = map line_as_worked lines
