-- The odd junctions of a piece, computed from the degrees of its junctions. A junction is a vertex.
use Rattle.std.specs.Prelude.{ℕ, ◌+◌, Bool, true, false, List, [], ◌∷◌, ◌++◌, Option}
use Rattle.line_graph.specs.ClosedDegrees.{closing_ends}
use Rattle.line_graph.specs.PieceGraphs.{is_odd}

-- The list of one junction, or the empty list.
abbrev pub singleton_if : Bool → ℕ → List ℕ
singleton_if true j = j ∷ []
singleton_if false j = []

-- The odd junctions with index `at` or above, given the degrees of these junctions.
abbrev pub odds_from : (from to : Option ℕ) → (at : ℕ) → List ℕ → List ℕ
odds_from from to at [] = []
odds_from from to at (degree ∷ rest) =
    singleton_if (is_odd (closing_ends from to at + degree)) at ++ odds_from from to (at + 1) rest
