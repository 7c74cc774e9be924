-- Where the points of lines are closer than half a step: the stitches between them are short. They
-- are counted by line. Lengths are in thousandths of a millimetre, and the step is in tenths.
use Rattle.std.specs.Prelude.{ℕ, ◌+◌, ◌*◌, Bool, max, min, nat_lt, List, [], ◌∷◌, ◌++◌, filter, length, map}
use Rattle.design_model.specs.declared.point.Point.{Point}
use Rattle.design_model.specs.Lengths.{length_of}
use Rattle.design_model.specs.Points.{move_between, move_size}
use Rattle.line_sections.specs.Lines.{LineValue}
use Rattle.line_sections.specs.Sections.{segments_of}
use Rattle.drawing_reports.specs.declared.spacing.Spacing.{Spacing}

-- A segment is shorter than half a step, on both axes.
abbrev pub is_short_stitch : ℕ → Point × Point → Bool
is_short_stitch step segment = nat_lt (2 * move_size (move_between segment.0 segment.1)) step

-- The segments of a line that are shorter than half a step.
abbrev pub short_segments : ℕ → List Point → List (Point × Point)
short_segments step points = filter (is_short_stitch step) (segments_of points)

-- The length of a segment.
abbrev pub segment_length : Point × Point → ℕ
segment_length segment = length_of segment.0 segment.1

-- The least of a number and further ones.
abbrev pub shortest_from : ℕ → List ℕ → ℕ
shortest_from best [] = best
shortest_from best (n ∷ rest) = shortest_from (min best n) rest

-- The greatest of a number and further ones.
abbrev pub greatest_from : ℕ → List ℕ → ℕ
greatest_from best [] = best
greatest_from best (n ∷ rest) = greatest_from (max best n) rest

-- The short segments of a line: how many, where the first one begins, and the lengths of the
-- shortest and of the longest.
abbrev pub spacing_of_segments : (block line : ℕ) → List (Point × Point) → List Spacing
spacing_of_segments block line [] = []
spacing_of_segments block line (s ∷ rest) = record {
  block = block;
  line = line;
  stitches = length rest + 1;
  first = s.0;
  shortest = shortest_from (segment_length s) (map segment_length rest);
  longest = greatest_from (segment_length s) (map segment_length rest);
} ∷ []

-- The lines with short segments, from the line of the given index on.
abbrev pub spacings_from : (step line : ℕ) → List LineValue → List Spacing
spacings_from step line [] = []
spacings_from step line (value ∷ rest) =
    spacing_of_segments value.block line (short_segments step value.points)
    ++ spacings_from step (line + 1) rest

-- The lines with short segments, in order.
abbrev pub spacings_of_lines : ℕ → List LineValue → List Spacing
spacings_of_lines step lines = spacings_from step 0 lines
