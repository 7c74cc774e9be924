-- The ends of the closing line at a junction, which decide with its degree whether the junction is
-- odd.
use Rattle.std.specs.Prelude.{ℕ, ◌+◌, ◌==◌, Option, Some, None}
use Rattle.line_graph.specs.PieceGraphs.{one_if}

-- The number of ends that the closing line has at a junction. The closing line leads from the end
-- of the walk back to its start; none is counted where no start and end are required.
abbrev pub closing_ends : (from to : Option ℕ) → ℕ → ℕ
closing_ends (Some from) (Some to) j = one_if (to == j) + one_if (from == j)
closing_ends (Some from) None j = 0
closing_ends None to j = 0
