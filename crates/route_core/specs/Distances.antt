-- The table of least costs between the terminals of rows (`odd_paths`). Costs count steps.
use Rattle.std.specs.Prelude.{◌≡◌, ℕ, ◌<◌, ◌==◌, ◌&&◌, Bool, length, nat_lt, if◌then◌else◌}
use Rattle.odd_sets.specs.Tables.{entry}
use Rattle.odd_sets.specs.TableValue.{TableValue}
use Rattle.line_graph.specs.PieceGraphs.{PieceValue}
use Rattle.odd_paths.specs.LeastRows.{AreRows, RowsValue, cost_at, terminal_of}

-- Each entry of a table is the least cost between its two terminals, and 0 from a terminal to
-- itself.
pub record HasDistances (rows : RowsValue) (t : TableValue) : Type 0 where
  pub entries : (a b : ℕ) → a < b → b < t.places → entry t a b ≡ cost_at rows a (terminal_of rows b)
  pub none : (a : ℕ) → a < t.places → entry t a a ≡ 0

-- The table of least costs between junctions of a piece.
pub record IsTableOf (p : PieceValue) (rows : RowsValue) (t : TableValue) : Type 0 where
  pub rows_are : AreRows p rows
  pub there : (a : ℕ) → a < length rows.terminals → terminal_of rows a < length p.junctions
  pub places : t.places ≡ length rows.terminals
  pub distances : HasDistances rows t

-- The entry of x and y is that of a with a terminal before b.
abbrev pub is_filled_entry : (a b x y : ℕ) → Bool
is_filled_entry a b x y = x == a && nat_lt y b

-- The entries of a with the terminals after it and before b are set, and no other has changed.
pub record HasFilledEntries (rows : RowsValue) (a b : ℕ) (old new : TableValue) : Type 0 where
  pub places : new.places ≡ old.places
  pub entries : (x y : ℕ) → x < y → y < old.places
      → entry new x y ≡ (if is_filled_entry a b x y then cost_at rows a (terminal_of rows y)
      else entry old x y)
  pub none : (x : ℕ) → x < old.places → entry new x x ≡ entry old x x
