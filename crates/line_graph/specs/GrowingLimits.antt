-- The limits of growing drawings, and that a finished one is valid. Coordinates are whole tenths of
-- a millimetre. Costs count steps.
use Rattle.std.specs.Prelude.{◌≡◌, ℕ, ◌<◌, ◌≤◌, Bool, true, List, length, IfOk}
use Rattle.design_model.specs.declared.point.Point.{Point}
use Rattle.step_splitter.specs.declared.segment.TheConstants.{MAX_STEP}
use Rattle.line_sections.specs.declared.spot.Spot.{Spot}
use Rattle.line_graph.specs.Drawings.{DrawingValue}
use Rattle.line_graph.specs.DrawingMakerInvariants.{AreBlocks, AreLines, IsHead}
use Rattle.line_graph.specs.GrowingDrawings.{block_added, empty_drawing, finished_drawing, is_drawing_label, line_added}
use Rattle.line_graph.specs.JoinedDrawings.{is_joined, joined_drawing}
use Rattle.line_graph.specs.WalkEnds.{HasNoEnds, IsValidDrawing, walk_end_added}

-- A growing drawing: within the limits of a drawing, without starts and ends. It may have no block,
-- and its last block may have no line.
pub record IsGrowingDrawing (d : DrawingValue) : Type 0 where
  pub head : IsHead d.label d.step
  pub blocks : AreBlocks d.threads d.lines
  pub lines : AreLines d.step d.lines
  pub no_ends : HasNoEnds d

-- A valid drawing that is joined.
pub record IsValidJoinedDrawing (d : DrawingValue) : Type 0 where
  pub valid : IsValidDrawing d
  pub joined : is_joined d ≡ true

-- A drawing without blocks grows, where its label and its longest step are within their limits.
abbrev pub EmptyDrawingsGrow : Type 0
EmptyDrawingsGrow = (label : List ℕ) (step : ℕ) → IsHead label step
    → IsGrowingDrawing (empty_drawing label step)

-- A growing drawing with another label is a growing drawing.
abbrev pub LabelsKeepGrowing : Type 0
LabelsKeepGrowing = (d : DrawingValue) (word : List ℕ) → IsGrowingDrawing d
    → is_drawing_label word ≡ true → IsGrowingDrawing (record d { label = word })

-- A growing drawing without blocks, with another longest step, is a growing drawing.
abbrev pub StepsKeepGrowing : Type 0
StepsKeepGrowing = (d : DrawingValue) (step : ℕ) → IsGrowingDrawing d → length d.threads ≡ 0
    → 1 ≤ step → step ≤ MAX_STEP → IsGrowingDrawing (record d { step = step })

-- A growing drawing to which a block is added is a growing drawing.
abbrev pub BlocksKeepGrowing : Type 0
BlocksKeepGrowing = (d : DrawingValue) (thread : ℕ) → IsGrowingDrawing d → thread < 256
    → IfOk (block_added d thread) IsGrowingDrawing

-- A growing drawing to which a line is added is a growing drawing.
abbrev pub LinesKeepGrowing : Type 0
LinesKeepGrowing = (d : DrawingValue) (points : List Point) → IsGrowingDrawing d
    → IfOk (line_added d points) IsGrowingDrawing

-- A growing drawing that can be finished is a valid drawing.
abbrev pub FinishedDrawingsAreValid : Type 0
FinishedDrawingsAreValid = (d : DrawingValue) → IsGrowingDrawing d
    → IfOk (finished_drawing d) IsValidDrawing

-- A valid drawing that can be joined becomes a valid drawing that is joined.
abbrev pub JoinedDrawingsAreValid : Type 0
JoinedDrawingsAreValid = (d : DrawingValue) → IsValidDrawing d
    → IfOk (joined_drawing d) IsValidJoinedDrawing

-- A valid joined drawing to which a start or an end is added is a valid joined drawing.
abbrev pub WalkEndsKeepValid : Type 0
WalkEndsKeepValid = (is_start : Bool) (d : DrawingValue) (spot : Spot) → IsValidJoinedDrawing d
    → IfOk (walk_end_added is_start d spot) IsValidJoinedDrawing
