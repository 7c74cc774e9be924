-- Least costs between the junctions of a piece. Costs count steps.
use Rattle.std.specs.Prelude.{◌≡◌, ◌≢◌, ℕ, ◌<◌, ◌≤◌, List, Option, Some, None, length, map, get_or, slice_get, slice_index, All, AllPairs}
use Rattle.line_graph.specs.declared.pass.Pass.{Pass}
use Rattle.line_graph.specs.PieceGraphs.{PieceValue}
use Rattle.line_graph.specs.PieceWalks.{piece_cost, walk_cost, walk_end_from}

-- A walk leads from junction i to junction j.
abbrev pub WalkLeads : PieceValue → ℕ → ℕ → List Pass → Type 0
WalkLeads p i j walk = walk_end_from p.lines p.edges (Some i) walk ≡ Some j

-- The least cost of a walk from junction i to junction j. The empty walk leads from each junction
-- to itself.
pub record IsLeastCost (p : PieceValue) (i j cost : ℕ) : Type 0 where
  pub walk : List Pass
  pub leads : WalkLeads p i j walk
  pub costs : walk_cost p walk ≡ cost
  pub least : (other : List Pass) → WalkLeads p i j other → cost ≤ walk_cost p other

-- Rows of least costs: the terminals, and for each a row with a number for each junction.
pub record RowsValue : Type 0 where
  pub terminals : List ℕ
  pub table : List (List ℕ)

-- The number of a row at a junction.
abbrev pub cost_in : Option (List ℕ) → ℕ → ℕ
cost_in None j = 0
cost_in (Some row) j = slice_index row j

-- The number of junctions that a row has a cost for.
abbrev pub length_in : Option (List ℕ) → ℕ
length_in None = 0
length_in (Some row) = length row

-- The length of row t.
abbrev pub row_length : RowsValue → ℕ → ℕ
row_length rows t = length_in (slice_get rows.table t)

-- The cost in row t at junction j.
abbrev pub cost_at : RowsValue → ℕ → ℕ → ℕ
cost_at rows t j = cost_in (slice_get rows.table t) j

-- The terminal of row t.
abbrev pub terminal_of : RowsValue → ℕ → ℕ
terminal_of rows t = slice_index rows.terminals t

-- Terminals: different junctions of a piece.
pub record AreTerminals (p : PieceValue) (terminals : List ℕ) : Type 0 where
  pub different : AllPairs (λ t u. t ≢ u) terminals
  pub there : All (λ t. t < length p.junctions) terminals

-- The rows of a piece for its terminals. Each number is the least cost from the terminal to the
-- junction, and at most the cost of all lines.
pub record AreRows (p : PieceValue) (rows : RowsValue) : Type 0 where
  pub terminals : AreTerminals p rows.terminals
  pub sized : length rows.table ≡ length rows.terminals
  pub wide : All (λ row. length row ≡ length p.junctions) rows.table
  pub least : (t j : ℕ) → t < length rows.terminals → j < length p.junctions
      → IsLeastCost p (terminal_of rows t) j (cost_at rows t j)
  pub most : (t j : ℕ) → t < length rows.terminals → j < length p.junctions
      → cost_at rows t j ≤ piece_cost p

-- The lines of a piece at the given indexes.
abbrev pub lines_at_indexes : PieceValue → List ℕ → List ℕ
lines_at_indexes p places = map (λ k. get_or p.lines k 0) places

-- The indexes of the lines of a walk of the given cost from junction i to junction j, in the order
-- of the walk.
pub record IsPath (p : PieceValue) (i j cost : ℕ) (places : List ℕ) : Type 0 where
  pub there : All (λ k. k < length p.lines) places
  pub walk : List Pass
  pub leads : WalkLeads p i j walk
  pub along : map (λ (pass : Pass). pass.line) walk ≡ lines_at_indexes p places
  pub costs : walk_cost p walk ≡ cost
