-- A drawing has only one list of pieces.
use Rattle.std.specs.Prelude.{◌≡◌, ℕ, List}
use Rattle.line_graph.specs.Drawings.{DrawingValue}
use Rattle.line_graph.specs.Pieces.{ArePieces}

-- Two lists of pieces of one drawing are equal.
abbrev pub PiecesAreUnique : Type 0
PiecesAreUnique = (d : DrawingValue) (a b : List (List ℕ)) → ArePieces d a → ArePieces d b → a ≡ b
