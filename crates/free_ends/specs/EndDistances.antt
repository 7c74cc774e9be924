-- The table of least costs between the terminals of rows, with two places more for the free ends
-- of a walk. Costs count steps.
use Rattle.std.specs.Prelude.{◌≡◌, ℕ, ◌*◌, ◌<◌, ◌==◌, ◌&&◌, Bool, length, nat_lt, if◌then◌else◌}
use Rattle.odd_sets.specs.Tables.{entry}
use Rattle.odd_sets.specs.TableValue.{TableValue}
use Rattle.odd_paths.specs.LeastRows.{RowsValue, cost_at, terminal_of}
use Rattle.free_ends.specs.declared.free_distances.TheConstants.{FREE_DISTANCE}

-- The distance of two places, the first less than the second: the least cost between two terminals,
-- the distance from a terminal to a free end, or twice that between the two free ends.
abbrev pub end_distance : RowsValue → (a b : ℕ) → ℕ
end_distance rows a b =
    if nat_lt b (length rows.terminals) then cost_at rows a (terminal_of rows b)
    else if nat_lt a (length rows.terminals) then FREE_DISTANCE
    else 2 * FREE_DISTANCE

-- Each entry of a table is the distance of its two places, and 0 from a place to itself.
pub record HasEndDistances (rows : RowsValue) (t : TableValue) : Type 0 where
  pub entries : (a b : ℕ) → a < b → b < t.places → entry t a b ≡ end_distance rows a b
  pub none : (a : ℕ) → a < t.places → entry t a a ≡ 0

-- The entry of x and y is that of a with a place before b.
abbrev pub is_filled_entry : (a b x y : ℕ) → Bool
is_filled_entry a b x y = x == a && nat_lt y b

-- The entries of a with the places after it and before b are set, and no other has changed.
pub record HasFilledRow (rows : RowsValue) (a b : ℕ) (old new : TableValue) : Type 0 where
  pub places : new.places ≡ old.places
  pub entries : (x y : ℕ) → x < y → y < old.places
      → entry new x y ≡ (if is_filled_entry a b x y then end_distance rows x y else entry old x y)
  pub none : (x : ℕ) → x < old.places → entry new x x ≡ entry old x x
