-- Cursors over the ends of lines at each junction, which skip the ends of lines that are done.
use Rattle.std.specs.Prelude.{◌≡◌, ℕ, ◌+◌, ◌*◌, ◌/◌, ◌<◌, ◌≤◌, List, Some, length, get_or, set}
use Rattle.euler_tour.specs.LineEnds.{AreBefore, junction_at}
use Rattle.euler_tour.specs.declared.line_ends.LineEnds.{LineEnds}
use Rattle.line_graph.specs.declared.edge.Edge.{Edge}

-- A cursor at a junction: the number of an end there, after which the line of each end there is
-- done.
pub record IsCursor (edges : List Edge) (IsDone : ℕ → Type 0) (j number : ℕ) : Type 0 where
  pub within : number ≤ 2 * length edges
  pub there : (end : ℕ) → number ≡ end + 1 → junction_at edges end ≡ Some j
  pub over : (end : ℕ) → number ≤ end → junction_at edges end ≡ Some j → IsDone (end / 2)

-- Linked lists of the ends of the edges, a cursor for each junction, and a junction of the piece.
pub record AreCursors (edges : List Edge) (count : ℕ) (IsDone : ℕ → Type 0) (last before : List ℕ)
    (at : ℕ) : Type 0 where
  pub last_beside : length last ≡ count
  pub before_beside : length before ≡ 2 * length edges
  pub below : at < count
  pub linked : AreBefore edges before
  pub cursors : (j : ℕ) → j < count → IsCursor edges IsDone j (get_or last j 0)

-- The cursor of a junction moves from an end to the one before it.
pub record SkipsEnd (junction end : ℕ) (old new : LineEnds) : Type 0 where
  pub last : new.last.items ≡ set old.last.items junction (get_or old.before.items end 0)
  pub before : new.before ≡ old.before
