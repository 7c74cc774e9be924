-- The law of freed drawings: a drawing can always have the best ends that are found of its pieces,
-- and each piece then has them.
use Rattle.std.specs.Prelude.{◌≡◌, true, false, List, Ok}
use Rattle.free_ends.specs.declared.piece_ends.PieceEnds.{PieceEnds}
use Rattle.free_ends.specs.FreedDrawings.{HasFoundEnds, IsWholeOf, with_ends_found}
use Rattle.free_ends.specs.PieceEnds.{AreFound, with_best_ends}
use Rattle.line_graph.specs.declared.piece.Piece.{Piece}
use Rattle.line_graph.specs.Drawings.{DrawingValue}
use Rattle.line_graph.specs.PiecesOfDrawings.{ArePiecesOf}
use Rattle.line_graph.specs.WalkEnds.{HasNoEnds, IsValidDrawing}

-- A drawing with the best ends that are found of its pieces beside its own starts and ends.
abbrev pub drawing_with_found : DrawingValue → List Piece → List PieceEnds → DrawingValue
drawing_with_found before pieces founds = record before {
  starts = with_best_ends true before.starts pieces founds;
  ends = with_best_ends false before.ends pieces founds;
}

-- The best ends that are found of the pieces of a drawing can be put: lines as they are drawn are
-- joined with them, and each piece has its own.
abbrev pub FoundEndsAreTaken : Type 0
FoundEndsAreTaken = (drawn before : DrawingValue) (pieces : List Piece) (founds : List PieceEnds)
    → HasNoEnds drawn → IsValidDrawing before → IsWholeOf drawn before → ArePiecesOf before pieces
    → AreFound pieces founds → let new = drawing_with_found before pieces founds in
    (with_ends_found drawn before pieces founds ≡ Ok new) × HasFoundEnds new pieces founds
