-- Relaxation of a row of costs by the edges of a piece, after R. Bellman, "On a routing problem",
-- Quarterly of Applied Mathematics 16 (1958). A cell is NO_WALK while no walk is known.
use Rattle.std.specs.Prelude.{◌≡◌, ◌<◌, ◌≤◌, length, ℕ, ◌+◌, List, [], ◌∷◌, Bool, false, nat_lt, ◌||◌, if◌then◌else◌, slice_index, slice_set}
use Rattle.line_graph.specs.declared.edge.Edge.{Edge}
use Rattle.odd_paths.specs.declared.sweeps.TheConstants.{NO_WALK}
use Rattle.odd_paths.specs.EdgeWalks.{IsEdgeWalk, edge_walk_cost}

-- The number at a plus the cost is less than the number at b.
abbrev pub is_lower : List ℕ → ℕ → ℕ → ℕ → Bool
is_lower row a b cost = nat_lt (slice_index row a + cost) (slice_index row b)

-- A row after relaxing b from a. The number at b is the minimum of its old value, and of the number
-- at a plus the cost.
abbrev pub lowered_row : List ℕ → ℕ → ℕ → ℕ → List ℕ
lowered_row row a b cost =
    if is_lower row a b cost then slice_set row b (slice_index row a + cost) else row

-- An edge lowers the number at one of its ends.
abbrev pub relaxes : List ℕ → Edge → Bool
relaxes row e = is_lower row e.a e.b e.cost || is_lower (lowered_row row e.a e.b e.cost) e.b e.a
    e.cost

-- A row after relaxing an edge in both directions.
abbrev pub relaxed : List ℕ → Edge → List ℕ
relaxed row e = lowered_row (lowered_row row e.a e.b e.cost) e.b e.a e.cost

-- One of the edges, relaxed in order, lowers a number.
abbrev pub changes : List ℕ → List Edge → Bool
changes row [] = false
changes row (e ∷ es) = relaxes row e || changes (relaxed row e) es

-- A row after relaxing all edges in order.
abbrev pub swept : List ℕ → List Edge → List ℕ
swept row [] = row
swept row (e ∷ es) = swept (relaxed row e) es

-- The numbers at the ends of an edge differ by at most its cost.
pub record IsRelaxedAt (row : List ℕ) (e : Edge) : Type 0 where
  pub forth : slice_index row e.b ≤ slice_index row e.a + e.cost
  pub back : slice_index row e.a ≤ slice_index row e.b + e.cost

-- No edge can lower a number of the row.
abbrev pub IsFullyRelaxed : List ℕ → List Edge → Type 0
IsFullyRelaxed row [] = Unit {0}
IsFullyRelaxed row (e ∷ es) = IsRelaxedAt row e × IsFullyRelaxed row es

-- The cost of some walk from i to j.
abbrev pub IsCost : List Edge → ℕ → ℕ → ℕ → Type 0
IsCost es i j d = (ks : List ℕ) × IsEdgeWalk es i j ks × (edge_walk_cost es ks ≡ d)

-- Each number below NO_WALK is the cost of a walk from a junction, whose own number is 0.
pub record AreWalkCosts (es : List Edge) (n from : ℕ) (row : List ℕ) : Type 0 where
  pub size : length row ≡ n
  pub start : slice_index row from ≡ 0
  pub most : (j : ℕ) → slice_index row j ≤ NO_WALK
  pub walks : (j : ℕ) → j < n → slice_index row j < NO_WALK → IsCost es from j (slice_index row j)

-- Numbers that are costs of walks stay costs of walks.
abbrev pub KeepsWalkCosts : List Edge → (old new : List ℕ) → Type 0
KeepsWalkCosts es old new =
    (from : ℕ) → AreWalkCosts es (length old) from old → AreWalkCosts es (length old) from new
