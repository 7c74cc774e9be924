-- The number of odd junctions of a piece.
use Rattle.std.specs.Prelude.{◌≡◌, ◌%◌, ◌≤◌, length}
use Rattle.line_graph.specs.declared.limits.TheConstants.{MAX_LINES}
use Rattle.line_graph.specs.ValidPieces.{IsValidPiece}
use Rattle.line_graph.specs.PieceGraphs.{PieceValue, odd_junctions}

-- The number of odd junctions of each piece is even, and at most the maximum number of lines.
abbrev pub OddsAreEven : Type 0
OddsAreEven = (p : PieceValue) → IsValidPiece p
    → (length (odd_junctions p) % 2 ≡ 0) × (length (odd_junctions p) ≤ MAX_LINES)
