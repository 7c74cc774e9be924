-- Copies of the lines of a piece. A line is copied once for each path between matched junctions
-- that uses it. Costs count steps.
use Rattle.std.specs.Prelude.{◌≡◌, ℕ, zero, suc, ◌+◌, ◌*◌, ◌%◌, ◌<◌, ◌==◌, List, [], ◌∷◌, length, slice_get}
use Rattle.blossom_match.specs.declared.matching.Pair.{Pair}
use Rattle.line_graph.specs.declared.edge.Edge.{Edge}
use Rattle.line_graph.specs.PieceGraphs.{PieceValue, one_if}
use Rattle.line_graph.specs.PieceWalks.{edge_cost, edge_value}
use Rattle.odd_paths.specs.LeastRows.{RowsValue, cost_at, terminal_of}

-- The sum of a function of edges over all copies.
abbrev pub copies_sum : (Edge → ℕ) → List Edge → List ℕ → ℕ
copies_sum f [] copies = 0
copies_sum f (e ∷ edges) [] = 0
copies_sum f (e ∷ edges) (c ∷ copies) = c * f e + copies_sum f edges copies

-- The sum of a function over the edges with the given indexes.
abbrev pub index_sum : (Edge → ℕ) → List Edge → List ℕ → ℕ
index_sum f edges [] = 0
index_sum f edges (k ∷ places) = edge_value f (slice_get edges k) + index_sum f edges places

-- The number of ends of an edge at a junction: 0, 1 or 2.
abbrev pub edge_end_count : ℕ → Edge → ℕ
edge_end_count v e = one_if (e.a == v) + one_if (e.b == v)

-- The total number of copies.
abbrev pub total_copies : List ℕ → ℕ
total_copies [] = 0
total_copies (c ∷ copies) = c + total_copies copies

-- The numbers of copies, with one more at the given index.
abbrev pub incremented_at : List ℕ → ℕ → List ℕ
incremented_at [] k = []
incremented_at (c ∷ copies) zero = (c + 1) ∷ copies
incremented_at (c ∷ copies) (suc k) = c ∷ incremented_at copies k

-- One copy is added at each of the given indexes.
pub record AddsCopies (old places new : List ℕ) : Type 0 where
  pub sized : length new ≡ length old
  pub up : total_copies new ≡ total_copies old + length places
  pub sums : (f : Edge → ℕ) (edges : List Edge) → length edges ≡ length old
      → copies_sum f edges new ≡ copies_sum f edges old + index_sum f edges places

-- The number of ends of pairs at a junction.
abbrev pub pair_ends : RowsValue → ℕ → List Pair → ℕ
pair_ends rows v [] = 0
pair_ends rows v (q ∷ pairs) =
    (one_if (terminal_of rows q.a == v) + one_if (terminal_of rows q.b == v))
    + pair_ends rows v pairs

-- The cost of least walks between the pairs.
abbrev pub pair_costs : RowsValue → List Pair → ℕ
pair_costs rows [] = 0
pair_costs rows (q ∷ pairs) = cost_at rows q.a (terminal_of rows q.b) + pair_costs rows pairs

-- A pair of terminals: both indexes are below the number of terminals.
pub record IsPairOf (rows : RowsValue) (q : Pair) : Type 0 where
  pub a_in : q.a < length rows.terminals
  pub b_in : q.b < length rows.terminals

-- Copies are added for least walks between the pairs. They cost as much as these walks. At each
-- junction the parity of the number of ends changes as often as the junction is an end of a pair.
pub record AddsPairs (p : PieceValue) (rows : RowsValue) (pairs : List Pair)
    (old new : List ℕ) : Type 0 where
  pub sized : length new ≡ length old
  pub costs : copies_sum edge_cost p.edges new ≡ copies_sum edge_cost p.edges old
      + pair_costs rows pairs
  pub ends : (v : ℕ) → ((copies_sum (edge_end_count v) p.edges new + copies_sum (edge_end_count v)
      p.edges old)
      + pair_ends rows v pairs) % 2 ≡ 0
