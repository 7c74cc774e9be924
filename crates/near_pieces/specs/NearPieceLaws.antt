-- Laws of near lines: the pieces of the drawing stay, each with its lines in their order, and so
-- does what it costs to sew them. Costs count steps.
use Rattle.std.specs.Prelude.{◌≡◌, ◌≢◌, ℕ, ◌<◌, true, List, [], Some, None, length, map, All}
use Rattle.std.specs.List.Sorted.{IsPermutation}
use Rattle.line_graph.specs.declared.pass.Pass.{Pass}
use Rattle.line_graph.specs.declared.piece.Piece.{Piece}
use Rattle.line_graph.specs.Drawings.{DrawingValue, KeepsDrawingLimits}
use Rattle.line_graph.specs.PieceGraphs.{PieceValue, piece_graph}
use Rattle.line_graph.specs.Pieces.{ArePieces}
use Rattle.line_graph.specs.PiecesOfDrawings.{ArePiecesOf, lines_of_pieces}
use Rattle.line_graph.specs.PieceWalks.{is_fitting_walk, walk_cost}
use Rattle.line_graph.specs.ValidPieces.{IsValidPiece}
use Rattle.line_sections.specs.declared.spot.Spot.{Spot}
use Rattle.line_sections.specs.Lines.{LineValue}
use Rattle.near_pieces.specs.NearDrawings.{IsNear}
use Rattle.near_pieces.specs.NearLines.{AreNearLines, lines_numbered}
use Rattle.near_pieces.specs.declared.near_drawing.NearDrawing.{NearDrawing}

-- Pieces of a drawing are those of other lines, in another order: each has the same lines, and
-- these are in their order.
pub record KeepsPieces (d : DrawingValue) (pieces : List (List ℕ)) (new : List LineValue)
    : Type 0 where
  pub order : List (List ℕ)
  pub each : IsPermutation pieces order
  pub new_pieces : List (List ℕ)
  pub pieces_are : ArePieces (record d { lines = new }) new_pieces
  pub same : map (lines_numbered new) new_pieces ≡ map (lines_numbered d.lines) order

-- Near lines have the pieces of the drawing.
abbrev pub NearPiecesStay : Type 0
NearPiecesStay = (d : DrawingValue) (pieces : List Piece) (new : List LineValue)
    (starts : List Spot) → KeepsDrawingLimits d → ArePiecesOf d pieces
    → AreNearLines d.lines None pieces new starts → KeepsPieces d (lines_of_pieces pieces) new

-- A near drawing has the pieces of the drawing: its lines are those of the drawing, or near lines.
abbrev pub NearDrawingsKeepPieces : Type 0
NearDrawingsKeepPieces = (d : DrawingValue) (found : NearDrawing) → KeepsDrawingLimits d
    → (near : IsNear d found) → KeepsPieces d (lines_of_pieces near.pieces) found.drawing.lines

-- The graphs of two pieces are the same but for the indexes of their lines, and where walks must
-- start and end.
pub record HasSameGraph (p q : PieceValue) : Type 0 where
  pub block : q.block ≡ p.block
  pub junctions : q.junctions ≡ p.junctions
  pub edges : q.edges ≡ p.edges
  pub degrees : q.degrees ≡ p.degrees

-- Pieces with the same lines have the same graph, in drawings of one step.
abbrev pub SameLinesHaveSameGraph : Type 0
SameLinesHaveSameGraph = (d e : DrawingValue) (some others : List ℕ) → d.step ≡ e.step
    → some ≢ [] → others ≢ []
    → All (λ line. line < length d.lines) some → All (λ line. line < length e.lines) others
    → lines_numbered e.lines others ≡ lines_numbered d.lines some
    → HasSameGraph (piece_graph d some) (piece_graph e others)

-- For each fitting walk over the piece p, one over the piece q costs as much.
abbrev pub HasWalksOf : (p q : PieceValue) → Type 0
HasWalksOf p q = (walk : List Pass) → is_fitting_walk p walk ≡ true
    → (other : List Pass) × (is_fitting_walk q other ≡ true)
    × (walk_cost q other ≡ walk_cost p walk)

-- Two pieces have walks of the same costs: a least walk over one costs as much as over the other.
pub record HasSameCosts (p q : PieceValue) : Type 0 where
  pub there : HasWalksOf p q
  pub back : HasWalksOf q p

-- Pieces with the same graph, and with the same start and end, have walks of the same costs.
abbrev pub SameGraphsHaveSameCosts : Type 0
SameGraphsHaveSameCosts = (p q : PieceValue) → IsValidPiece p → IsValidPiece q → HasSameGraph p q
    → q.start ≡ p.start → q.end ≡ p.end → HasSameCosts p q

-- A closed walk may begin at any junction: a piece without start and end has walks of the same
-- costs once it has a start.
abbrev pub ClosedWalksBeginAnywhere : Type 0
ClosedWalksBeginAnywhere = (p : PieceValue) (j : ℕ) → IsValidPiece p → p.start ≡ None
    → p.end ≡ None → j < length p.junctions → HasSameCosts p (record p { start = Some j })
