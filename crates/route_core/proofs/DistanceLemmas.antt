-- Tables of distances, as far as they are filled.
use Rattle.std.proofs.Common.{◌≡◌, ◌<◌, ℕ, ◌+◌, false, arith, subst, List, length, get_or, Option, Some, slice_get, slice_index, ◌≤◌}
use Rattle.route_core.proofs.Names.{nat_tests, entry, TableValue, PieceValue, piece_cost, RowsValue, cost_at, terminal_of, AreRows, cost_in, is_filled_entry}

none_before : (a x y : ℕ) → x < y → is_filled_entry a (a + 1) x y ≡ false
none_before a x y xy = grind (arith, nat_tests)

-- a terminal is a junction
pub terminal_there : (p : PieceValue) (rows : RowsValue) (terminals : List ℕ) (b : ℕ) → AreRows p rows → rows.terminals ≡ terminals
    → b < length terminals → get_or terminals b 0 < length p.junctions
terminal_there p rows terminals b are is = grind (arith, nat_tests)

-- and it is at most the cost of all lines
pub row_most : (p : PieceValue) (rows : RowsValue) (a j : ℕ) (row : List ℕ) → AreRows p rows → a < length rows.terminals
    → j < length p.junctions → slice_get rows.table a ≡ Some row → slice_index row j ≤ piece_cost p
row_most p rows a j row are there below is =
    subst (λ (o : Option (List ℕ)). cost_in o j ≤ piece_cost p) is (are.most a j there below)

-- the entries of the first terminals are filled, with those after them
pub record HasRowsBefore (rows : RowsValue) (n a : ℕ) (t : TableValue) : Type 0 where
  pub places : t.places ≡ n
  pub entries : (x y : ℕ) → x < y → x < a → y < n → entry t x y ≡ cost_at rows x (terminal_of rows y)
  pub none : (x : ℕ) → x < n → entry t x x ≡ 0
