-- Tables with a lane of sixteen costs for each junction, one from each of sixteen terminals. A
-- column of a table is the row of one terminal.
use Rattle.std.specs.Prelude.{◌≡◌, ℕ, ◌+◌, ◌<◌, ◌≤◌, List, [], ◌∷◌, ◌++◌, Vec, length, map, min, slice_index, slice_set, sum, sum_by}
use Rattle.std.proofs.Common.{Global}
use Rattle.line_graph.specs.declared.edge.Edge.{Edge}
use Rattle.line_graph.specs.declared.limits.TheConstants.{MAX_COST}
use Rattle.line_graph.specs.PieceWalks.{edge_cost, edge_sum}
use Rattle.odd_paths.specs.declared.lanes.TheConstants.{LANES}
use Rattle.odd_paths.specs.declared.sweeps.TheConstants.{NO_WALK}
use Rattle.odd_paths.specs.EdgeWalks.{EndsAreBelow, AreLeastRows, IsLeastRow}
use Rattle.odd_paths.specs.Sweeps.{AreWalkCosts}

-- P holds at each index of a lane.
abbrev pub EachLane : (ℕ → Type 0) → Type 0
EachLane P = (i : ℕ) → i < LANES → P i

-- The column of a table at an index: that number of each lane.
abbrev pub lane_column : ℕ → List (List ℕ) → List ℕ
lane_column i table = map (λ (lane : List ℕ). slice_index lane i) table

-- A column for each of the terminals, from an index on.
abbrev pub terminal_columns : List (List ℕ) → (at : ℕ) → List ℕ → List (List ℕ)
terminal_columns table at [] = []
terminal_columns table at (terminal ∷ rest) = lane_column at table ∷ terminal_columns table (at + 1)
    rest

-- A number of a lane after relaxation: the minimum of its old value, and of the near lane's number
-- plus the cost.
abbrev pub relaxed_cost : (near lane : List ℕ) (cost i : ℕ) → ℕ
relaxed_cost near lane cost i = min (slice_index near i + cost) (slice_index lane i)

-- The near lane's number plus the cost isn't below the lane's number.
abbrev pub IsNoLower : (near lane : List ℕ) (cost i : ℕ) → Type 0
IsNoLower near lane cost i = slice_index lane i ≤ slice_index near i + cost

-- The lists of a list of vectors.
abbrev pub lists_of : List (Vec ℕ Global) → List (List ℕ)
lists_of rows = map (λ row. row.items) rows

-- The sum of all numbers of a table.
abbrev pub weight : List (List ℕ) → ℕ
weight table = sum_by sum table

-- No number of a table is above NO_WALK.
abbrev pub IsCapped : List (List ℕ) → Type 0
IsCapped table = EachLane (λ i. (j : ℕ) → slice_index (lane_column i table) j ≤ NO_WALK)

-- A table that edges can relax: their ends are junctions, their costs are within the limit, and no
-- number is above NO_WALK.
pub record CanRelax (es : List Edge) (table : List (List ℕ)) : Type 0 where
  pub ends : EndsAreBelow (length table) es
  pub cost : edge_sum edge_cost es ≤ MAX_COST
  pub capped : IsCapped table

-- The effect of relaxation on a table: costs of walks stay costs of walks, and no number rises.
pub record KeepsCosts (es : List Edge) (old new : List (List ℕ)) : Type 0 where
  pub size : length new ≡ length old
  pub capped : IsCapped new
  pub sound : (i from : ℕ) → i < LANES → AreWalkCosts es (length old) from (lane_column i old)
      → AreWalkCosts es (length old) from (lane_column i new)
  pub most : weight new ≤ weight old

-- The rows of the terminals are appended.
pub record AddsRows (es : List Edge) (n : ℕ) (terminals : List ℕ) (old new : List (Vec ℕ Global))
    : Type 0 where
  pub more : List (List ℕ)
  pub rows : AreLeastRows es n terminals more
  pub is : lists_of new ≡ lists_of old ++ more

-- A column for each of the terminals is appended as a row.
abbrev pub AddsColumns : List (List ℕ) → List ℕ → (old new : List (Vec ℕ Global)) → Type 0
AddsColumns table terminals old new = lists_of new ≡ lists_of old
    ++ terminal_columns table 0 terminals

-- Each column is the row of least costs of its terminal.
abbrev pub AreLeastColumns : List Edge → ℕ → List ℕ → List (List ℕ) → Type 0
AreLeastColumns es n terminals table =
    (i : ℕ) → i < length terminals → IsLeastRow es n (slice_index terminals i) (lane_column i table)

-- In the column of each terminal the terminal itself has cost 0, and nothing else changes.
abbrev pub HaveStarts : List ℕ → (old new : List (List ℕ)) → Type 0
HaveStarts terminals old new =
    (i : ℕ) → i < length terminals
    → lane_column i new ≡ slice_set (lane_column i old) (slice_index terminals i) 0
