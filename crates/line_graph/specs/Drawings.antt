-- Drawings as contracts see them: lines of straight segments, in colour blocks of one thread each.
-- Coordinates are whole tenths of a millimetre. Indexes of blocks and lines count from 0. Costs
-- count steps.
use Rattle.std.specs.Prelude.{◌≢◌, ℕ, ◌<◌, ◌≤◌, List, [], ◌∷◌, Option, Some, None, length, map, All, Contains, sum_by, slice_get}
use Rattle.std.specs.List.Sorted.{IsNonDecreasing}
use Rattle.design_model.specs.declared.point.Point.{Point}
use Rattle.design_model.specs.Labels.{IsLabel}
use Rattle.step_splitter.specs.declared.segment.TheConstants.{MAX_STEP}
use Rattle.step_splitter.specs.Chains.{IsNeedlePoint, HasNoRepeatAfter, last_point_or}
use Rattle.line_sections.specs.declared.spot.Spot.{Spot}
use Rattle.line_sections.specs.Lines.{LineValue}
use Rattle.line_graph.specs.declared.limits.TheConstants.{MAX_BLOCKS, MAX_COST, MAX_LINES, MAX_POINTS}
use Rattle.line_graph.specs.Needles.{steps_of_line}

-- A drawing: its label, its longest step, the thread number of each block, and its lines in the
-- order of their blocks. The starts and ends are the junctions where the walks over pieces must
-- start and end.
pub record DrawingValue : Type 0 where
  pub label : List ℕ
  pub step : ℕ
  pub threads : List ℕ
  pub lines : List LineValue
  pub starts : List Spot
  pub ends : List Spot

-- The points of a line, or none where there is no line.
abbrev pub optional_line_points : Option LineValue → List Point
optional_line_points (Some line) = line.points
optional_line_points None = []

-- The block of a line, or 0 where there is no line.
abbrev pub optional_line_block : Option LineValue → ℕ
optional_line_block (Some line) = line.block
optional_line_block None = 0

-- The points of the line with the given index.
abbrev pub points_of : DrawingValue → ℕ → List Point
points_of d line = optional_line_points (slice_get d.lines line)

-- The block of the line with the given index.
abbrev pub block_of : DrawingValue → ℕ → ℕ
block_of d line = optional_line_block (slice_get d.lines line)

-- The first point of a list, if it has one.
abbrev pub first_point : List Point → Option Point
first_point [] = None
first_point (p ∷ rest) = Some p

-- The last point of a list, if it has one.
abbrev pub last_point : List Point → Option Point
last_point [] = None
last_point (p ∷ rest) = Some (last_point_or p rest)

-- The endpoints of a line: its first point and its last point.
abbrev pub endpoints : List Point → List Point
endpoints [] = []
endpoints (p ∷ rest) = p ∷ last_point_or p rest ∷ []

-- Each point of a list differs from the point before it.
abbrev pub HasNoRepeat : List Point → Type 0
HasNoRepeat [] = Unit {0}
HasNoRepeat (p ∷ rest) = HasNoRepeatAfter p rest

-- A line that can be sewn: it has a segment, no point repeats the one before, and the needle can
-- reach each point.
pub record IsLine (points : List Point) : Type 0 where
  pub long : 2 ≤ length points
  pub moving : HasNoRepeat points
  pub in_range : All IsNeedlePoint points

-- The limits of a drawing. Each block has a line, and the lines are in the order of their blocks.
pub record KeepsDrawingLimits (d : DrawingValue) : Type 0 where
  pub label : IsLabel d.label
  pub one_word : All (λ byte. byte ≢ 32) d.label
  pub step_from : 1 ≤ d.step
  pub step_to : d.step ≤ MAX_STEP
  pub blocks_from : 1 ≤ length d.threads
  pub blocks_to : length d.threads ≤ MAX_BLOCKS
  pub threads : All (λ thread. thread < 256) d.threads
  pub used : (block : ℕ) → block < length d.threads
      → Contains (map (λ line. line.block) d.lines) block
  pub there : All (λ line. line.block < length d.threads) d.lines
  pub ordered : IsNonDecreasing (map (λ line. line.block) d.lines)
  pub lines : All (λ line. IsLine line.points) d.lines
  pub line_count : length d.lines ≤ MAX_LINES
  pub point_count : sum_by (λ line. length line.points) d.lines ≤ MAX_POINTS
  pub cost : sum_by (λ line. steps_of_line d.step line.points) d.lines ≤ MAX_COST
