-- Why a growing drawing has room for the lines of a sample. No public clause cites this file.
use Rattle.std.specs.Prelude.{◌≡◌, ℕ, ◌+◌, ◌*◌, ◌≤◌, true, false, List, [], ◌∷◌, ◌++◌, codes, length, map}
use Rattle.design_model.specs.declared.point.TheConstants.{NEEDLE_LIMIT}
use Rattle.design_model.specs.Points.{is_same_point, is_point_within}
use Rattle.line_graph.specs.declared.limits.TheConstants.{MAX_LINES}
use Rattle.line_graph.specs.Drawings.{DrawingValue}
use Rattle.line_graph.specs.GrowingDrawings.{empty_drawing, point_count, step_count, with_new_block}
use Rattle.line_graph.specs.Needles.{steps_of_line}
use Rattle.sample_drawings.specs.declared.segment.Segment.{Segment}
use Rattle.sample_drawings.specs.Samples.{line_along}

-- A segment between two different points that the needle can reach, of at most 6 steps.
pub record IsShortSegment (s : Segment) : Type 0 where
  pub from : is_point_within NEEDLE_LIMIT s.from ≡ true
  pub to : is_point_within NEEDLE_LIMIT s.to ≡ true
  pub apart : is_same_point s.from s.to ≡ false
  pub cost : steps_of_line 25 (s.from ∷ s.to ∷ []) ≤ 6

-- A drawing of one block with few points and steps for each line, and with room for the given
-- number of lines.
pub record HasRoom (d : DrawingValue) (more : ℕ) : Type 0 where
  pub threads : d.threads ≡ 1 ∷ []
  pub step : d.step ≡ 25
  pub lines : length d.lines + more ≤ MAX_LINES
  pub points : point_count d.lines ≤ 2 * length d.lines
  pub steps : step_count 25 d.lines ≤ 6 * length d.lines

-- The sample drawing before its first line.
abbrev pub first_block : DrawingValue
first_block = with_new_block (empty_drawing (codes "sample") 25) 1

-- The drawing with more lines, along the given segments.
abbrev pub with_segments : DrawingValue → List Segment → DrawingValue
with_segments d lines = record d { lines = d.lines ++ map line_along lines }
