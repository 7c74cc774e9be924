-- Copies of lines for least walks between matched junctions, and the tables and matchings that they come from.
use Rattle.std.proofs.Common.{◌≡◌, ℕ, ◌+◌, ◌*◌, ◌%◌, ◌<◌, ◌≤◌, pos, true, false, List, [], ◌∷◌, None, length, refl, arith}
use Rattle.route_core.proofs.Names.{AddsCopies, AddsPairs, AreOddPairs, AreOddRows, AreRows, BeginsWith, CertifiesLeastWalk, Edge, HasCanonicalText, HasFilledEntries, IsDouble, IsPairOf, IsTableOf, IsWalkBy, Moat, Pair, Pass, Piece, PieceCert, PieceValue, RowsValue, TableValue, copies_sum, edge_cost, edge_end_count, entry, graph_of, incremented_at, index_sum, is_filled_entry, is_fitting_walk, pair_costs, pair_ends, piece_cost, total_copies, walk_cost, width_of, without_ends}
use Rattle.cut_certificate.specs.Lifts.{AreLiftableMoats}
use Rattle.design_model.specs.declared.point.Point.{Point}
use Rattle.line_graph.specs.PieceGraphs.{odd_junctions}
use Rattle.route_core.specs.SewnDrawings.{AreCertsOf}
use Rattle.route_verdict.specs.declared.sewing_ways.Sewing.TheVariants as ways

abbrev edge : (a b cost : ℕ) → Edge
edge a b cost = record { a = a; b = b; cost = cost }

abbrev edges : List Edge
edges = edge 0 1 2 ∷ edge 0 2 3 ∷ edge 3 0 1 ∷ []

abbrev place : ℕ → Point
place x = record { x = pos x; y = pos 0 }

-- the lines 1, 3 and 6 from one junction, the last of them towards it
abbrev star : PieceValue
star = record {
  block = 0;
  lines = 0 ∷ 2 ∷ 5 ∷ [];
  junctions = place 0 ∷ place 1 ∷ place 2 ∷ place 3 ∷ [];
  edges = edges;
  degrees = 3 ∷ 1 ∷ 1 ∷ 1 ∷ [];
  start = None;
  end = None;
}

-- all four junctions are odd
abbrev rows : RowsValue
rows = record {
  terminals = 0 ∷ 1 ∷ 2 ∷ 3 ∷ [];
  table = (0 ∷ 2 ∷ 3 ∷ 1 ∷ []) ∷ (2 ∷ 0 ∷ 5 ∷ 3 ∷ []) ∷ (3 ∷ 5 ∷ 0 ∷ 4 ∷ []) ∷ (1 ∷ 3 ∷ 4 ∷ 0 ∷ []) ∷ [];
}

abbrev pair : ℕ → ℕ → Pair
pair a b = record { a = a; b = b }

-- two copies of the first line and one of the last, over all copies and over indexes
pub known_sums : (copies_sum edge_cost edges (2 ∷ 0 ∷ 1 ∷ []) ≡ 5) × (index_sum edge_cost edges (2 ∷ 0 ∷ 2 ∷ []) ≡ 4)
    × (copies_sum (edge_end_count 0) edges (2 ∷ 0 ∷ 1 ∷ []) ≡ 3) × (edge_end_count 1 (edge 1 1 4) ≡ 2)
    × (total_copies (2 ∷ 0 ∷ 1 ∷ []) ≡ 3) × (incremented_at (2 ∷ 0 ∷ 1 ∷ []) 1 ≡ 2 ∷ 1 ∷ 1 ∷ [])
known_sums = (refl, refl, refl, refl, refl, refl)

-- from 1 to 2, and from 0 to 3
pub known_pairs : (pair_costs rows (pair 1 2 ∷ pair 0 3 ∷ []) ≡ 6) × (pair_ends rows 3 (pair 1 2 ∷ pair 0 3 ∷ []) ≡ 1)
known_pairs = (refl, refl)

-- copies are added at the indexes: as many, and at each its own edge
pub known_added : (new : List ℕ) → AddsCopies (1 ∷ 1 ∷ 1 ∷ []) (2 ∷ 0 ∷ 2 ∷ []) new
    → (length new ≡ 3) × (total_copies new ≡ 6) × (copies_sum edge_cost edges new ≡ 10)
known_added new adds = (adds.sized, adds.up, adds.sums edge_cost edges refl)

-- copies for pairs cost their least walks, and change the parity at their ends alone
pub known_added_pairs : (new : List ℕ) → AddsPairs star rows (pair 1 2 ∷ pair 0 3 ∷ []) (0 ∷ 0 ∷ 0 ∷ []) new
    → (length new ≡ 3) × (copies_sum edge_cost edges new ≡ 6) × ((copies_sum (edge_end_count 3) edges new + 0 + 1) % 2 ≡ 0)
known_added_pairs new adds = (adds.sized, adds.costs, adds.ends 3)

-- a pair is of two terminals
pub known_pair : (q : Pair) → IsPairOf rows q → (q.a < 4) × (q.b < 4)
known_pair q is = (is.a_in, is.b_in)

-- the rows of a piece's odd junctions, its table, and an entry of it
pub known_rows : (p : PieceValue) (r : RowsValue) → AreOddRows p r → AreRows p r × (r.terminals ≡ odd_junctions p)
known_rows p r are = (are.rows_are, are.terminals)

pub known_table : (p : PieceValue) (t : TableValue) → IsTableOf p rows t → AreRows p rows × (2 < length p.junctions)
    × (t.places ≡ 4) × (entry t 1 2 ≡ 5) × (entry t 3 3 ≡ 0)
known_table p t is = let four : t.places ≡ 4 = is.places in (
  is.rows_are,
  is.there 2 (omega arith),
  four,
  is.distances.entries 1 2 (omega arith) (omega (arith, four)),
  is.distances.none 3 (omega (arith, four)),
)

-- of the second row's entries those before the fourth are filled
pub known_filled : (old new : TableValue) → HasFilledEntries rows 1 3 old new → old.places ≡ 4
    → (new.places ≡ old.places) × (entry new 1 2 ≡ 5) × (entry new 1 3 ≡ entry old 1 3) × (entry new 0 2 ≡ entry old 0 2)
    × (entry new 1 1 ≡ entry old 1 1)
known_filled old new has four = (
  has.places,
  has.entries 1 2 (omega arith) (omega (arith, four)),
  has.entries 1 3 (omega arith) (omega (arith, four)),
  has.entries 0 2 (omega arith) (omega (arith, four)),
  has.none 1 (omega (arith, four)),
)

pub known_filled_entry : (is_filled_entry 1 3 1 2 ≡ true) × (is_filled_entry 1 3 2 2 ≡ false) × (is_filled_entry 1 3 1 3 ≡ false)
known_filled_entry = (refl, refl, refl)

-- pairs of odd junctions: a perfect matching that moats of twice its cost pay
pub known_matched : (moats : List Moat) → AreOddPairs star rows (pair 1 2 ∷ pair 0 3 ∷ []) moats
    → AreLiftableMoats star rows moats × (width_of moats ≡ 12)
known_matched moats are = (are.moats_are, are.paid)

pub known_unmatched : (moats : List Moat) → AreOddPairs star rows (pair 1 2 ∷ []) moats → ⊥
known_unmatched moats are = none (are.each 3)
  where
    none : ◌≡◌ {A = ℕ} 0 1 → ⊥
    none is = omega (arith, is)

pub known_outside : (moats : List Moat) → AreOddPairs star rows (pair 1 4 ∷ []) moats → ⊥
known_outside moats are = far (are.pairs_are 0 (pair 0 0) (omega arith)).b_in
  where
    far : 4 < 4 → ⊥
    far less = omega (arith, less)

-- a walk by these pairs fits, begins with the first line, and costs the lines and the pairs
pub known_walk : (walk : List Pass) → IsWalkBy star rows (pair 1 2 ∷ pair 0 3 ∷ []) walk
    → (is_fitting_walk star walk ≡ true) × BeginsWith 0 walk × (walk_cost star walk ≡ 12)
known_walk walk is = (is.fitting, is.begins refl, is.costs)

pub known_no_walk : (p : PieceValue) (r : RowsValue) (pairs : List Pair) → IsWalkBy p r pairs [] → ⊥
known_no_walk p r pairs is = none is.some
  where
    none : 1 ≤ 0 → ⊥
    none less = omega (arith, less)

-- certificates of both ways, one a piece: of a least walk with a text, or of a double walk without cuts
pub known_routed : (p : Piece) (c : PieceCert) → AreCertsOf ways.Route (p ∷ []) (c ∷ [])
    → CertifiesLeastWalk (graph_of p) c × HasCanonicalText c
known_routed p c are = (are.0.proved, are.0.canonical)

pub known_doubled : (p : Piece) (c : PieceCert) → AreCertsOf ways.Double (p ∷ []) (c ∷ [])
    → IsDouble (graph_of p) c.walk × (is_fitting_walk (without_ends (graph_of p)) c.walk ≡ true)
    × (walk_cost (graph_of p) c.walk ≡ 2 * piece_cost (graph_of p)) × (c.retraced ≡ piece_cost (graph_of p)) × (c.cuts ≡ [])
known_doubled p c are = (are.0.double, are.0.fitting, are.0.cost, are.0.retraced, are.0.cuts)

pub known_missing : (p : Piece) → AreCertsOf ways.Route (p ∷ []) [] → ⊥
known_missing p are = are
