-- What is found of all pieces, where none is left.
use Rattle.std.proofs.Common.{List, [], ◌++◌, ◌≡◌, subst, sym}
use Rattle.std.proofs.lemmas.List.{append-nil}
use Rattle.free_ends.specs.PieceEnds.{AreFound}
use Rattle.free_ends.specs.declared.piece_ends.PieceEnds.{PieceEnds}
use Rattle.line_graph.specs.declared.piece.Piece.{Piece}

pub all_found : (pieces rest : List Piece) (all : List PieceEnds) → rest ≡ []
    → ((more : List PieceEnds) → AreFound rest more → AreFound pieces (all ++ more)) → AreFound pieces all
all_found pieces rest all none go_on =
    subst (λ (founds : List PieceEnds). AreFound pieces founds) (append-nil all)
    (go_on [] (subst (λ (ps : List Piece). AreFound ps []) (sym none) tt))
