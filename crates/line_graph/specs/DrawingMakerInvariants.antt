-- Invariants of `DrawingMaker`, which makes a drawing block by block and line by line, and the
-- limits of the parts of a growing drawing. Costs count steps.
use Rattle.std.specs.Prelude.{◌≡◌, ℕ, ◌+◌, ◌<◌, ◌≤◌, ◌≢◌, Bool, List, length, map, All, Contains}
use Rattle.std.specs.List.Sorted.{IsNonDecreasing}
use Rattle.design_model.specs.Labels.{IsLabel}
use Rattle.step_splitter.specs.declared.segment.TheConstants.{MAX_STEP}
use Rattle.line_sections.specs.Lines.{LineValue}
use Rattle.line_graph.specs.declared.limits.TheConstants.{MAX_BLOCKS, MAX_COST, MAX_LINES, MAX_POINTS}
use Rattle.line_graph.specs.Drawings.{DrawingValue, IsLine}
use Rattle.line_graph.specs.GrowingDrawings.{is_last_empty, point_count, step_count}
use Rattle.line_graph.specs.WalkEnds.{HasNoEnds}

-- The limits of a label and of a longest step. A label is one word or empty.
pub record IsHead (label : List ℕ) (step : ℕ) : Type 0 where
  pub label_ok : IsLabel label
  pub one_word : All (λ byte. byte ≢ 32) label
  pub step_from : 1 ≤ step
  pub step_to : step ≤ MAX_STEP

-- The limits of blocks with lines: each block has a line, except that the last one may be empty.
pub record AreBlocks (threads : List ℕ) (lines : List LineValue) : Type 0 where
  pub blocks_to : length threads ≤ MAX_BLOCKS
  pub in_range : All (λ thread. thread < 256) threads
  pub used : (block : ℕ) → block + 1 < length threads
      → Contains (map (λ line. line.block) lines) block
  pub there : All (λ line. line.block < length threads) lines
  pub ordered : IsNonDecreasing (map (λ line. line.block) lines)

-- The limits of the lines of a drawing.
pub record AreLines (step : ℕ) (lines : List LineValue) : Type 0 where
  pub each : All (λ line. IsLine line.points) lines
  pub line_count : length lines ≤ MAX_LINES
  pub points_to : point_count lines ≤ MAX_POINTS
  pub cost : step_count step lines ≤ MAX_COST

-- The state of a `DrawingMaker`: a drawing within its limits, without starts and ends. The counters
-- are whether its last block is empty, the number of points and the number of steps.
pub record IsMakerState (d : DrawingValue) (empty : Bool) (points steps : ℕ) : Type 0 where
  pub head : IsHead d.label d.step
  pub blocks : AreBlocks d.threads d.lines
  pub lines : AreLines d.step d.lines
  pub no_ends : HasNoEnds d
  pub last_is : empty ≡ is_last_empty d
  pub points_are : points ≡ point_count d.lines
  pub steps_are : steps ≡ step_count d.step d.lines
