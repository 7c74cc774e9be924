-- Runs of pieces: the pieces of a block follow each other.
use Rattle.std.specs.Prelude.{◌==◌, List, [], ◌∷◌, if◌then◌else◌}
use Rattle.line_graph.specs.declared.piece.Piece.{Piece}

-- Runs with one more piece before them: it joins the first run if that is of its block.
abbrev pub with_piece : Piece → List (List Piece) → List (List Piece)
with_piece p [] = (p ∷ []) ∷ []
with_piece p ([] ∷ runs) = (p ∷ []) ∷ runs
with_piece p ((q ∷ run) ∷ runs) =
    if q.block == p.block then (p ∷ q ∷ run) ∷ runs else (p ∷ []) ∷ (q ∷ run) ∷ runs

-- The runs of pieces of one block each.
abbrev pub block_runs : List Piece → List (List Piece)
block_runs [] = []
block_runs (p ∷ rest) = with_piece p (block_runs rest)
