-- The last edge of a walk of least cost to a junction.
use Rattle.std.specs.Prelude.{◌≡◌, ℕ, ◌+◌, ◌<◌, ◌≤◌, List, [], ◌∷◌, Bool, nat_eq, ◌&&◌, if◌then◌else◌, slice_index, Option, Some, None, length, true}
use Rattle.line_graph.specs.declared.edge.Edge.{Edge}
use Rattle.line_graph.specs.declared.limits.TheConstants.{MAX_LINES}
use Rattle.line_graph.specs.ValidPieces.{all_costs_positive}
use Rattle.odd_paths.specs.EdgeWalks.{EndsAreBelow, IsEdgeWalk, IsLeastRow, edge_walk_cost}

-- An edge from a to b of the given cost is the last of a least walk to j, by a row of least costs.
abbrev pub is_last_edge : List ℕ → ℕ → ℕ → ℕ → ℕ → Bool
is_last_edge row a b cost j = nat_eq b j && nat_eq (slice_index row a + cost) (slice_index row j)

-- The index of the first edge that is the last of a least walk to j, and its other end. The first
-- of the given edges has index k.
abbrev pub last_edge_from : List ℕ → ℕ → ℕ → List Edge → Option (ℕ × ℕ)
last_edge_from row j k [] = None
last_edge_from row j k (e ∷ es) =
    if is_last_edge row e.a e.b e.cost j
    then Some (k, e.a)
    else if is_last_edge row e.b e.a e.cost j
    then Some (k, e.b)
    else last_edge_from row j (k + 1) es

-- The row of least costs of a junction, over edges that cost at least one step.
pub record IsRowFrom (es : List Edge) (from : ℕ) (row : List ℕ) : Type 0 where
  pub least : IsLeastRow es (length row) from row
  pub ends : EndsAreBelow (length row) es
  pub costs : all_costs_positive es ≡ true
  pub few : length es ≤ MAX_LINES
  pub there : from < length row

-- The edges at these indexes are a walk from i to j, at the cost in the row.
pub record IsLeastEdgeWalk (es : List Edge) (row : List ℕ) (i j : ℕ) (ks : List ℕ) : Type 0 where
  pub walk : IsEdgeWalk es i j ks
  pub costs : edge_walk_cost es ks ≡ slice_index row j
