-- Walks along edges, relaxed tables and last edges: what each relation requires.
use Rattle.std.proofs.Common.{◌≡◌, ◌≢◌, ℕ, ◌+◌, ◌%◌, ◌<◌, ◌≤◌, ◌⊎◌, true, List, [], ◌∷◌, ◌++◌, Vec, Global, Some, length, refl, arith, sym, true≢false, inl, inr, ⊎_elim}
use Rattle.std.specs.Prelude.{slice_get, slice_index}
use Rattle.line_graph.specs.PieceGraphs.{PieceValue, odd_junctions}
use Rattle.line_graph.specs.ValidPieces.{IsConnectedGraph, IsValidPiece}
use Rattle.odd_paths.proofs.Names.{AddsColumns, AddsRows, AreLeastColumns, AreLeastRows, AreWalkCosts, Edge, HaveStarts, IsEdgeWalk, IsFullyRelaxed, IsGraph, IsLeastEdgeWalk, IsLeastRow, IsRowFrom, KeepsCosts, KeepsWalkCosts, LANES, NO_WALK, edge_cost, edge_sum, edge_walk_cost, lane_column, lists_of, weight}
use Rattle.odd_paths.specs.Lanes.{CanRelax, IsNoLower}
use Rattle.odd_paths.specs.OddJunctions.{OddsAreEven}

abbrev edge : ℕ → ℕ → ℕ → Edge
edge a b cost = record { a = a; b = b; cost = cost }

-- from junction 0 over 1 to 2
abbrev edges : List Edge
edges = edge 0 1 3 ∷ edge 1 2 5 ∷ []

-- equal lanes, and no walk
pub known_constants : (LANES ≡ 16) × (NO_WALK ≡ 2147483648)
known_constants = (refl, refl)

-- a walk along an edge in either direction, and none from elsewhere
abbrev home : List ℕ
home = 1 ∷ 0 ∷ []

pub known_walk : IsEdgeWalk edges 2 0 home × (edge_walk_cost edges home ≡ 8)
known_walk = (
  (edge 1 2 5, 1, refl, inr (refl, refl), (edge 0 1 3, 0, refl, inr (refl, refl), refl)),
  refl,
)

pub known_led : (i j k : ℕ) → IsEdgeWalk edges i j (k ∷ []) → (e : Edge) × (slice_get edges k ≡ Some e)
    × (((e.a ≡ i) × (e.b ≡ j)) ⊎ ((e.b ≡ i) × (e.a ≡ j)))
known_led i j k walk = (
  walk.0,
  walk.2,
  ⊎_elim
      (λ forth. inl (forth.0, omega (arith, forth.1, walk.4))) (λ back. inr (back.0, omega (arith, back.1, walk.4))) walk.3,
)

-- a least row has a least cost for each junction, of some walk, and none is above the sum of all costs
pub known_row : (row ks : List ℕ) → IsLeastRow edges 3 0 row → IsEdgeWalk edges 0 2 ks
    → (length row ≡ 3) × (slice_index row 2 ≤ edge_walk_cost edges ks) × (slice_index row 2 ≤ 8)
    × ((walk : List ℕ) × IsEdgeWalk edges 0 2 walk × (edge_walk_cost edges walk ≡ slice_index row 2))
known_row row ks is leads = let least = is.least 2 (omega arith) in (
  is.size,
  least.least ks leads,
  is.most 2 (omega arith),
  (least.there.0, least.there.1, least.there.2),
)

-- a graph: each end is a junction, all are connected, and costs and lines are within the limits
pub known_graph : (es : List Edge) → IsGraph es 3 → IsConnectedGraph es 3 × (edge_sum edge_cost es ≤ 200000) × (length es ≤ 1024)
known_graph es is = (is.joined, is.cost, is.few)

pub known_end_beyond : IsGraph (edge 0 1 3 ∷ edge 1 3 5 ∷ []) 3 → ⊥
known_end_beyond is = far is.ends.2.1
  where
    far : 3 < 3 → ⊥
    far less = omega (arith, less)

-- a row to walk back by: the least row of a junction of it, over edges of at least one step
pub known_row_from : (row : List ℕ) → IsRowFrom edges 0 row → IsLeastRow edges (length row) 0 row × (2 < length row) × (0 < length row)
known_row_from row is = (is.least, is.ends.2.1, is.there)

pub known_free_edge : (row : List ℕ) → IsRowFrom (edge 0 1 0 ∷ []) 0 row → ⊥
known_free_edge row is = true≢false (sym is.costs)

pub known_many_edges : (es : List Edge) (row : List ℕ) → IsRowFrom es 0 row → length es ≡ 1025 → ⊥
known_many_edges es row is many = omega (arith, is.few, many)

pub known_walked_back : (row ks : List ℕ) → IsLeastEdgeWalk edges row 0 2 ks
    → IsEdgeWalk edges 0 2 ks × (edge_walk_cost edges ks ≡ slice_index row 2)
known_walked_back row ks is = (is.walk, is.costs)

-- a relaxed row differs at the ends of each edge by at most its cost
pub known_relaxed : (row : List ℕ) → IsFullyRelaxed row edges
    → (slice_index row 1 ≤ slice_index row 0 + 3) × (slice_index row 0 ≤ slice_index row 1 + 3)
    × (slice_index row 2 ≤ slice_index row 1 + 5) × (slice_index row 1 ≤ slice_index row 2 + 5)
known_relaxed row is = (is.0.forth, is.0.back, is.1.0.forth, is.1.0.back)

-- costs of walks from junction 0 stay such costs: 0 there, none above 200,001, and each other one that of a walk
pub known_kept : (old new : List ℕ) → length old ≡ 3 → KeepsWalkCosts edges old new → AreWalkCosts edges (length old) 0 old
    → (length new ≡ 3) × (slice_index new 0 ≡ 0) × (slice_index new 2 ≤ 2147483648) × (slice_index new 2 < 2147483648
    → (ks : List ℕ) × IsEdgeWalk edges 0 2 ks × (edge_walk_cost edges ks ≡ slice_index new 2))
known_kept old new three keeps are = let after = keeps 0 are in (
  omega (arith, three, after.size),
  after.start,
  after.most 2,
  λ below. let cost = after.walks 2 (omega (arith, three)) below in (cost.0, cost.1, cost.2),
)

-- a table of three lanes that the edges can relax, and that it becomes
pub known_can_relax : (table : List (List ℕ)) → length table ≡ 2 → CanRelax edges table → ⊥
known_can_relax table two can = let below : 2 < length table = can.ends.2.1 in omega (arith, two, below)

pub known_relax_limits : (es : List Edge) (table : List (List ℕ)) → CanRelax es table
    → (edge_sum edge_cost es ≤ 200000) × (slice_index (lane_column 15 table) 7 ≤ 2147483648)
known_relax_limits es table can = (can.cost, can.capped 15 (omega arith) 7)

pub known_relaxed_table : (old new : List (List ℕ)) → KeepsCosts edges old new → (length new ≡ length old)
    × (slice_index (lane_column 15 new) 7 ≤ 2147483648) × (weight new ≤ weight old)
    × (AreWalkCosts edges (length old) 2 (lane_column 15 old) → AreWalkCosts edges (length old) 2 (lane_column 15 new))
known_relaxed_table old new keeps = (keeps.size, keeps.capped 15 (omega arith) 7, keeps.most, λ are. keeps.sound 15 2 (omega arith) are)

-- the near lane's number and the cost are no less
pub known_no_lower : IsNoLower (4 ∷ 9 ∷ []) (7 ∷ 13 ∷ []) 3 1 → ⊥
known_no_lower is = lower is
  where
    lower : 13 ≤ 12 → ⊥
    lower less = omega (arith, less)

-- rows are appended, a least one for each terminal, or its column
pub known_rows : (old new : List (Vec ℕ Global)) → AddsRows edges 3 (0 ∷ 2 ∷ []) old new
    → (more : List (List ℕ)) × (lists_of new ≡ lists_of old ++ more) × AreLeastRows edges 3 (0 ∷ 2 ∷ []) more
known_rows old new adds = (adds.more, adds.is, adds.rows)

pub known_least_rows : (one other : List ℕ) → AreLeastRows edges 3 (0 ∷ 2 ∷ []) (one ∷ other ∷ [])
    → IsLeastRow edges 3 0 one × IsLeastRow edges 3 2 other
known_least_rows one other are = (are.0, are.1.0)

pub known_columns : (old new : List (Vec ℕ Global)) → AddsColumns ((1 ∷ 2 ∷ []) ∷ (3 ∷ 4 ∷ []) ∷ []) (7 ∷ 9 ∷ []) old new
    → lists_of new ≡ lists_of old ++ (1 ∷ 3 ∷ []) ∷ (2 ∷ 4 ∷ []) ∷ []
known_columns old new adds = adds

pub known_least_columns : (table : List (List ℕ)) → AreLeastColumns edges 3 (0 ∷ 2 ∷ []) table
    → IsLeastRow edges 3 0 (lane_column 0 table) × IsLeastRow edges 3 2 (lane_column 1 table)
known_least_columns table are = (are 0 (omega arith), are 1 (omega arith))

-- each terminal's own number becomes 0
pub known_starts : (new : List (List ℕ)) → HaveStarts (0 ∷ 1 ∷ []) ((7 ∷ 8 ∷ []) ∷ (9 ∷ 6 ∷ []) ∷ []) new
    → (lane_column 0 new ≡ 0 ∷ 9 ∷ []) × (lane_column 1 new ≡ 8 ∷ 0 ∷ [])
known_starts new have = (have 0 (omega arith), have 1 (omega arith))

-- no piece has three odd junctions, or more than lines are allowed
pub known_odds : OddsAreEven → (p : PieceValue) → IsValidPiece p → (length (odd_junctions p) % 2 ≡ 1 → ⊥)
    × (length (odd_junctions p) ≡ 1025 → ⊥)
known_odds law p valid = let are = law p valid in (λ odd. omega (arith, odd, are.0), λ many. omega (arith, many, are.1))
