-- What it means that computed pieces are the pieces of a drawing.
use Rattle.std.specs.Prelude.{◌≡◌, ℕ, List, map, All}
use Rattle.line_graph.specs.declared.piece.Piece.{Piece}
use Rattle.line_graph.specs.Drawings.{DrawingValue}
use Rattle.line_graph.specs.PieceGraphs.{PieceValue, piece_graph}
use Rattle.line_graph.specs.Pieces.{ArePieces}

-- The graph of a piece, without the proofs that the Rust type carries.
abbrev pub graph_of : Piece → PieceValue
graph_of p = record {
  block = p.block;
  lines = p.lines;
  junctions = p.junctions;
  edges = p.edges;
  degrees = p.degrees;
  start = p.start;
  end = p.end;
}

-- The lists of lines of the given pieces.
abbrev pub lines_of_pieces : List Piece → List (List ℕ)
lines_of_pieces pieces = map (λ (p : Piece). p.lines) pieces

-- The pieces of a drawing: their lists of lines are the pieces of the drawing, and each graph is
-- that of its lines.
pub record ArePiecesOf (d : DrawingValue) (pieces : List Piece) : Type 0 where
  pub are : ArePieces d (lines_of_pieces pieces)
  pub each : All (λ (p : Piece). graph_of p ≡ piece_graph d p.lines) pieces
