-- Tables of distances, in whole steps. A place is a vertex of a complete graph, numbered from 0.
use Rattle.std.specs.Prelude.{◌≡◌, ◌==◌, ◌&&◌, ◌||◌, ℕ, ◌+◌, ◌*◌, ◌<◌, ◌≤◌, length, max, min, slice_index, if◌then◌else◌}
use Rattle.odd_sets.specs.TableValue.{TableValue}
use Rattle.odd_sets.specs.declared.table.TheConstants.{MAX_DISTANCE, MAX_PLACES}

-- The distance of two places, in either order.
abbrev pub entry : TableValue → ℕ → ℕ → ℕ
entry t a b = slice_index t.cells (min a b * t.places + max a b)

-- The entry of x and y after that of a and b was set to d, in both directions.
abbrev pub after_set : TableValue → ℕ → ℕ → ℕ → ℕ → ℕ → ℕ
after_set t a b d x y = if (x == a && y == b) || (x == b && y == a) then d else entry t x y

-- A table within its limits, with a cell for each two places.
pub record IsTable (t : TableValue) : Type 0 where
  pub few : t.places ≤ MAX_PLACES
  pub filled : length t.cells ≡ t.places * t.places
  pub short : (a b : ℕ) → a < t.places → b < t.places → entry t a b ≤ MAX_DISTANCE

-- The layout of a stored table: each entry in both directions, and 0 on the diagonal.
pub record IsStored (t : TableValue) : Type 0 where
  pub table : IsTable t
  pub mirror : (a b : ℕ) → a < t.places → b < t.places
      → slice_index t.cells (a * t.places + b) ≡ entry t a b
  pub diagonal : (a : ℕ) → a < t.places → entry t a a ≡ 0

-- The entries of a table equal those of the function d.
abbrev pub EntriesAre : TableValue → (ℕ → ℕ → ℕ) → Type 0
EntriesAre t d = (a b : ℕ) → a < t.places → b < t.places → entry t a b ≡ d a b

-- A path from a through b is at least as long as the direct way, to every third place.
abbrev pub HasNoShortcutBy : TableValue → ℕ → ℕ → Type 0
HasNoShortcutBy t a b = (c : ℕ) → c < t.places → entry t a c ≤ entry t a b + entry t b c

-- The triangle inequality holds in a table.
abbrev pub HasTriangleInequality : TableValue → Type 0
HasTriangleInequality t = (a b : ℕ) → a < t.places → b < t.places → HasNoShortcutBy t a b

-- A table whose distances satisfy the triangle inequality.
pub record IsMetric (t : TableValue) : Type 0 where
  pub table : IsTable t
  pub triangles : HasTriangleInequality t
