-- What turns and mirrorings keep: the pieces of a drawing, the costs of its lines and walks, and
-- its packings of odd cuts. Costs count steps.
use Rattle.std.specs.Prelude.{◌≡◌, ℕ, List, length}
use Rattle.design_edits.specs.declared.axis.Axis.{Axis}
use Rattle.drawing_edits.specs.MovedDrawings.{mirrored_drawing, turned_drawing}
use Rattle.line_graph.specs.declared.pass.Pass.{Pass}
use Rattle.line_graph.specs.Drawings.{DrawingValue}
use Rattle.line_graph.specs.Pieces.{ArePieces}
use Rattle.line_graph.specs.Walks.{needles_of_walk}
use Rattle.line_graph.specs.LineNeedles.{cost_of_line}
use Rattle.odd_cuts.specs.declared.cut.Cut.{Cut}
use Rattle.odd_cuts.specs.DrawnCuts.{IsPackingOver}

-- A moved drawing has the costs of the drawing: each line costs the same, each walk has as many
-- needle points, the pieces have the same lines, and each packing is one of the moved drawing.
pub record KeepsCosts (d moved : DrawingValue) : Type 0 where
  pub lines : (line : ℕ) → cost_of_line moved line ≡ cost_of_line d line
  pub walks : (walk : List Pass)
      → length (needles_of_walk moved walk) ≡ length (needles_of_walk d walk)
  pub pieces : (pieces : List (List ℕ)) → ArePieces d pieces → ArePieces moved pieces
  pub packings : (lines : List ℕ) (cuts : List Cut) → IsPackingOver d lines cuts
      → IsPackingOver moved lines cuts

-- A turned drawing has the costs of the drawing.
abbrev pub TurnKeepsCosts : Type 0
TurnKeepsCosts = (quarters : ℕ) (d : DrawingValue) → KeepsCosts d (turned_drawing quarters d)

-- A mirrored drawing has the costs of the drawing.
abbrev pub MirrorKeepsCosts : Type 0
MirrorKeepsCosts = (a : Axis) (d : DrawingValue) → KeepsCosts d (mirrored_drawing a d)
