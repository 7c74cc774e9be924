-- Walks as lists of indexes of edges, each edge taken in one of its two directions. Costs count
-- steps.
use Rattle.std.specs.Prelude.{◌≡◌, ℕ, ◌+◌, ◌<◌, ◌≤◌, List, [], ◌∷◌, Some, length, slice_get, slice_index, ◌⊎◌}
use Rattle.line_graph.specs.declared.edge.Edge.{Edge}
use Rattle.line_graph.specs.declared.limits.TheConstants.{MAX_COST, MAX_LINES}
use Rattle.line_graph.specs.ValidPieces.{IsConnectedGraph}
use Rattle.line_graph.specs.PieceWalks.{edge_cost, edge_sum, edge_value}

-- An edge leads from i to j in one of its directions.
abbrev pub Connects : Edge → ℕ → ℕ → Type 0
Connects e i j = ((e.a ≡ i) × (e.b ≡ j)) ⊎ ((e.b ≡ i) × (e.a ≡ j))

-- The edges at the given indexes lead from i to j.
abbrev pub IsEdgeWalk : List Edge → ℕ → ℕ → List ℕ → Type 0
IsEdgeWalk es i j [] = i ≡ j
IsEdgeWalk es i j (k ∷ ks) =
    (e : Edge) × (m : ℕ) × (slice_get es k ≡ Some e) × Connects e i m × IsEdgeWalk es m j ks

-- The total cost of the edges at the given indexes.
abbrev pub edge_walk_cost : List Edge → List ℕ → ℕ
edge_walk_cost es [] = 0
edge_walk_cost es (k ∷ ks) = edge_value edge_cost (slice_get es k) + edge_walk_cost es ks

-- The least cost of a walk from i to j.
pub record IsLeastEdgeCost (es : List Edge) (i j d : ℕ) : Type 0 where
  pub there : (ks : List ℕ) × IsEdgeWalk es i j ks × (edge_walk_cost es ks ≡ d)
  pub least : (ks : List ℕ) → IsEdgeWalk es i j ks → d ≤ edge_walk_cost es ks

-- Both ends of each edge are below n.
abbrev pub EndsAreBelow : ℕ → List Edge → Type 0
EndsAreBelow n [] = Unit {0}
EndsAreBelow n (e ∷ es) = (e.a < n) × (e.b < n) × EndsAreBelow n es

-- Edges that connect n junctions, within the limits of a drawing.
pub record IsGraph (es : List Edge) (n : ℕ) : Type 0 where
  pub ends : EndsAreBelow n es
  pub joined : IsConnectedGraph es n
  pub cost : edge_sum edge_cost es ≤ MAX_COST
  pub few : length es ≤ MAX_LINES

-- The row of least costs from a junction to n junctions.
pub record IsLeastRow (es : List Edge) (n from : ℕ) (row : List ℕ) : Type 0 where
  pub size : length row ≡ n
  pub least : (j : ℕ) → j < n → IsLeastEdgeCost es from j (slice_index row j)
  pub most : (j : ℕ) → j < n → slice_index row j ≤ edge_sum edge_cost es

-- A row of least costs for each of the junctions.
abbrev pub AreLeastRows : List Edge → ℕ → List ℕ → List (List ℕ) → Type 0
AreLeastRows es n [] [] = Unit {0}
AreLeastRows es n [] (row ∷ rows) = ⊥
AreLeastRows es n (from ∷ rest) [] = ⊥
AreLeastRows es n (from ∷ rest) (row ∷ rows) = IsLeastRow es n from row
    × AreLeastRows es n rest rows
