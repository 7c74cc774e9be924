-- The number of odd junctions, computed from the degrees of the junctions. No public clause refers
-- to this file.
use Rattle.std.specs.Prelude.{ℕ, ◌+◌, List, [], ◌∷◌, Option}
use Rattle.line_graph.specs.ClosedDegrees.{closing_ends}
use Rattle.line_graph.specs.PieceGraphs.{is_odd, one_if}

-- The number of odd junctions with index `at` or above, given the degrees of these junctions, where
-- a closing line leads from `to` to `from`.
abbrev pub odd_number : (from to : Option ℕ) → (at : ℕ) → List ℕ → ℕ
odd_number from to at [] = 0
odd_number from to at (degree ∷ rest) =
    one_if (is_odd (closing_ends from to at + degree)) + odd_number from to (at + 1) rest
