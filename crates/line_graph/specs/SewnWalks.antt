-- Walks over the pieces of a drawing as stitches. Costs count steps.
use Rattle.std.specs.Prelude.{◌≡◌, ℕ, ◌+◌, ◌<◌, ◌≤◌, true, List, length, All, Contains, sum_by}
use Rattle.std.specs.List.{AllZip}
use Rattle.line_graph.specs.declared.limits.TheConstants.{MAX_COST, MAX_LINES}
use Rattle.line_graph.specs.declared.pass.Pass.{Pass}
use Rattle.line_graph.specs.Drawings.{DrawingValue, KeepsDrawingLimits}
use Rattle.line_graph.specs.ValidPieces.{IsValidPiece}
use Rattle.line_graph.specs.PieceGraphs.{piece_graph}
use Rattle.line_graph.specs.Pieces.{ArePieces}
use Rattle.line_graph.specs.PieceWalks.{is_fitting_walk, piece_cost, walk_cost}
use Rattle.line_graph.specs.Runs.{AreNear, runs_of, stops_after}
use Rattle.line_graph.specs.Walks.{needles_of_walk}

-- A walk along the given lines that can be sewn. The walk has one needle point more than it costs
-- steps, and each is within the drawing's step of the one before.
pub record IsSewable (d : DrawingValue) (lines : List ℕ) (walk : List Pass) : Type 0 where
  pub there : All (λ (pass : Pass). Contains lines pass.line) walk
  pub penetrations : length (needles_of_walk d walk) ≡ walk_cost (piece_graph d lines) walk + 1
  pub near : AreNear d.step (needles_of_walk d walk)

-- A fitting walk over a piece of a drawing can be sewn.
abbrev pub FittingWalksAreSewable : Type 0
FittingWalksAreSewable = (d : DrawingValue) (lines : List ℕ) (walk : List Pass)
    → KeepsDrawingLimits d
    → All (λ line. line < length d.lines) lines → IsValidPiece (piece_graph d lines)
    → is_fitting_walk (piece_graph d lines) walk ≡ true → IsSewable d lines walk

-- A walk with at least one pass, all of whose passes follow the given lines.
pub record GoesAlong (lines : List ℕ) (walk : List Pass) : Type 0 where
  pub some : 1 ≤ length walk
  pub there : All (λ (pass : Pass). Contains lines pass.line) walk

-- Pieces within the limits of their drawing: in cost, in number, and in the stops between walks
-- that follow the pieces in order.
pub record ArePiecesWithin (d : DrawingValue) (pieces : List (List ℕ)) : Type 0 where
  pub cost : sum_by (λ lines. piece_cost (piece_graph d lines)) pieces ≤ MAX_COST
  pub count : length pieces ≤ MAX_LINES
  pub stops : (walks : List (List Pass)) → AllZip GoesAlong pieces walks
      → stops_after 0 (runs_of d walks) + 1 ≤ length d.threads

-- The pieces of a drawing are within the limits of the drawing.
abbrev pub PiecesKeepLimits : Type 0
PiecesKeepLimits = (d : DrawingValue) (pieces : List (List ℕ)) → KeepsDrawingLimits d
    → ArePieces d pieces
    → ArePiecesWithin d pieces
