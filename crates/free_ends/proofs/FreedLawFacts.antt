-- What the law of freed drawings excludes.
use Rattle.std.proofs.Common.{◌≡◌, ◌≢◌, ◌∙◌, ℕ, List, [], ◌∷◌, Option, Some, Ok, Err, ap, sym}
use Rattle.free_ends.specs.BestWalkEnds.{piece_with_ends}
use Rattle.free_ends.specs.FreedDrawings.{HasFoundEnds, IsWholeOf, with_ends_found}
use Rattle.free_ends.specs.FreedLaws.{FoundEndsAreTaken, drawing_with_found}
use Rattle.free_ends.specs.PieceEnds.{AreFound, ends_found}
use Rattle.free_ends.specs.declared.end_choice.WalkEnds.{WalkEnds}
use Rattle.free_ends.specs.declared.piece_ends.PieceEnds.{PieceEnds}
use Rattle.line_graph.specs.declared.draw_kind.DrawKind.{DrawKind}
use Rattle.line_graph.specs.declared.piece.Piece.{Piece}
use Rattle.line_graph.specs.Drawings.{DrawingValue}
use Rattle.line_graph.specs.PieceGraphs.{PieceValue, piece_graph}
use Rattle.line_graph.specs.Pieces.{ArePieces}
use Rattle.line_graph.specs.PiecesOfDrawings.{ArePiecesOf, graph_of, lines_of_pieces}
use Rattle.line_graph.specs.WalkEnds.{HasNoEnds, IsValidDrawing}

-- A piece has no other start and no other end than those that are found of it.
pub refuted_start : (new : DrawingValue) (p : Piece) (f : PieceEnds) (ends : WalkEnds) (other : Option ℕ)
    → HasFoundEnds new (p ∷ []) (f ∷ []) → ends_found f ≡ Some ends → (piece_graph new p.lines).start ≡ other → other ≢ Some ends.start → ⊥
refuted_start new p f ends other has found is differ = differ (sym is ∙ ap (λ (g : PieceValue). g.start) (has.graphs.0
    ∙ ap (piece_with_ends (graph_of p)) found))

pub refuted_end : (new : DrawingValue) (p : Piece) (f : PieceEnds) (ends : WalkEnds) (other : Option ℕ)
    → HasFoundEnds new (p ∷ []) (f ∷ []) → ends_found f ≡ Some ends → (piece_graph new p.lines).end ≡ other → other ≢ Some ends.end → ⊥
refuted_end new p f ends other has found is differ = differ (sym is ∙ ap (λ (g : PieceValue). g.end) (has.graphs.0
    ∙ ap (piece_with_ends (graph_of p)) found))

-- Something is found of each piece, and the pieces are those of the drawing.
pub refuted_none : (new : DrawingValue) (p : Piece) → HasFoundEnds new (p ∷ []) [] → ⊥
refuted_none new p has = has.graphs

pub refuted_pieces : (new : DrawingValue) (pieces : List Piece) (founds : List PieceEnds)
    → (ArePieces new (lines_of_pieces pieces) → ⊥) → HasFoundEnds new pieces founds → ⊥
refuted_pieces new pieces founds never has = never has.pieces_are

-- The ends that are found leave no fault.
pub refuted_fault : FoundEndsAreTaken → (drawn before : DrawingValue) (pieces : List Piece) (founds : List PieceEnds) (why : DrawKind)
    → HasNoEnds drawn → IsValidDrawing before → IsWholeOf drawn before → ArePiecesOf before pieces → AreFound pieces founds
    → with_ends_found drawn before pieces founds ≡ Err why → ⊥
refuted_fault law drawn before pieces founds why none valid whole are found is =
    fault (sym is ∙ (law drawn before pieces founds none valid whole are found).0)
  where
    fault : Err why ≡ Ok (drawing_with_found before pieces founds) → ⊥
    fault never = cc
