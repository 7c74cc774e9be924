-- The least costs between the junctions of a piece form a metric. Costs count steps.
use Rattle.std.specs.Prelude.{◌≡◌, ◌≢◌, ℕ, ◌+◌, ◌≤◌, Some, slice_get}
use Rattle.line_graph.specs.declared.edge.Edge.{Edge}
use Rattle.line_graph.specs.ValidPieces.{IsValidPiece}
use Rattle.line_graph.specs.PieceGraphs.{PieceValue}
use Rattle.odd_paths.specs.LeastRows.{IsLeastCost}

-- The least costs of a piece are a metric: 0 only from a junction to itself, symmetric, and with
-- the triangle inequality. A line changes a least cost by at most its own cost.
pub record AreDistances (p : PieceValue) : Type 0 where
  pub home : (i d : ℕ) → IsLeastCost p i i d → d ≡ 0
  pub apart : (i j d : ℕ) → i ≢ j → IsLeastCost p i j d → 1 ≤ d
  pub back : (i j d f : ℕ) → IsLeastCost p i j d → IsLeastCost p j i f → d ≡ f
  pub along : (i k d f : ℕ) (e : Edge) → slice_get p.edges k ≡ Some e → IsLeastCost p i e.a d
      → IsLeastCost p i e.b f → (f ≤ d + e.cost) × (d ≤ f + e.cost)
  pub through : (i m j d f g : ℕ) → IsLeastCost p i j d → IsLeastCost p i m f → IsLeastCost p m j g
      → d ≤ f + g
  pub meeting : (i m j d f g : ℕ) → IsLeastCost p i j d → IsLeastCost p i m f → IsLeastCost p j m g
      → d ≤ f + g

-- The least costs of each piece are a metric.
abbrev pub LeastCostsAreDistances : Type 0
LeastCostsAreDistances = (p : PieceValue) → IsValidPiece p → AreDistances p
