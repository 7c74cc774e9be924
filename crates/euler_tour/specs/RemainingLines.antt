-- The passes of lines that remain: a list of numbers, one for each edge.
use Rattle.std.specs.Prelude.{ℕ, zero, suc, ◌+◌, ◌-◌, ◌*◌, ◌==◌, List, [], ◌∷◌}
use Rattle.line_graph.specs.declared.edge.Edge.{Edge}
use Rattle.line_graph.specs.PieceGraphs.{one_if}

-- The number of passes of each line: one, and one more for each of its copies.
abbrev pub pass_counts : List ℕ → List ℕ
pass_counts [] = []
pass_counts (c ∷ copies) = (c + 1) ∷ pass_counts copies

-- The sum of a quantity over the lines, each counted as often as it remains.
abbrev pub remaining_sum : (Edge → ℕ) → List Edge → List ℕ → ℕ
remaining_sum f [] left = 0
remaining_sum f (e ∷ edges) [] = 0
remaining_sum f (e ∷ edges) (n ∷ left) = n * f e + remaining_sum f edges left

-- The number of ends that an edge has at a junction.
abbrev pub edge_ends_at : ℕ → Edge → ℕ
edge_ends_at j e = one_if (e.a == j) + one_if (e.b == j)

-- The quantity 1 of each edge.
abbrev pub one_of : Edge → ℕ
one_of e = 1

-- The number of line ends that remain at a junction.
abbrev pub remaining_ends : List Edge → List ℕ → ℕ → ℕ
remaining_ends edges left j = remaining_sum (edge_ends_at j) edges left

-- The remaining passes with one fewer at an index.
abbrev pub decremented_at : List ℕ → ℕ → List ℕ
decremented_at [] place = []
decremented_at (n ∷ left) zero = (n - 1) ∷ left
decremented_at (n ∷ left) (suc place) = n ∷ decremented_at left place
