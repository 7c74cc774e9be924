-- The ends of a piece's lines. The line at index k has two: its edge's `a` is at the end with index
-- 2 * k, and its `b` at the next one. The number of an end is its index plus one; 0 is the number
-- of none.
use Rattle.std.specs.Prelude.{◌≡◌, ℕ, ◌+◌, ◌/◌, ◌<◌, ◌≤◌, not, List, [], ◌∷◌, ◌++◌, Option, Some, length, get_or, set, slice_get}
use Rattle.line_graph.specs.declared.edge.Edge.{Edge}
use Rattle.line_graph.specs.declared.pass.Pass.{Pass}
use Rattle.line_graph.specs.PieceGraphs.{is_odd}
use Rattle.line_graph.specs.PieceWalks.{pass_start_on}
use Rattle.euler_tour.specs.declared.line_ends.LineEnds.{LineEnds}

-- The junction where an end is.
abbrev pub junction_at : List Edge → ℕ → Option ℕ
junction_at edges end = pass_start_on (slice_get edges (end / 2)) (is_odd end)

-- The junction where the other end of the line is.
abbrev pub junction_across : List Edge → ℕ → Option ℕ
junction_across edges end = pass_start_on (slice_get edges (end / 2)) (not (is_odd end))

-- The pass that starts at an end.
abbrev pub pass_from : List ℕ → ℕ → Pass
pass_from lines end = record { line = get_or lines (end / 2) 0; back = is_odd end }

-- The pass that ends at an end.
abbrev pub pass_to : List ℕ → ℕ → Pass
pass_to lines end = record { line = get_or lines (end / 2) 0; back = not (is_odd end) }

-- The number of the last end at a junction, among the first `count` ends.
pub record IsLast (edges : List Edge) (j count number : ℕ) : Type 0 where
  pub within : number ≤ count
  pub there : (end : ℕ) → number ≡ end + 1 → junction_at edges end ≡ Some j
  pub none : (end : ℕ) → number ≤ end → end < count → junction_at edges end ≡ Some j → ⊥

-- For each end, the number of the last one before it at the same junction.
abbrev pub AreBefore : List Edge → List ℕ → Type 0
AreBefore edges before = (end j : ℕ) → end < length before → junction_at edges end ≡ Some j
    → IsLast edges j end (get_or before end 0)

-- For each junction, the number of the last end there, among the first `count` ends.
abbrev pub AreLast : List Edge → ℕ → List ℕ → Type 0
AreLast edges count last = (j : ℕ) → j < length last → IsLast edges j count (get_or last j 0)

-- One more end at a junction.
pub record AddsEnd (junction : ℕ) (old new : LineEnds) : Type 0 where
  pub before : new.before.items ≡ old.before.items ++ get_or old.last.items junction 0 ∷ []
  pub last : new.last.items ≡ set old.last.items junction (length old.before.items + 1)
