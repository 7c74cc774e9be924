-- The heights of vertices, in an array with a cell for each vertex.
use Rattle.std.specs.Prelude.{◌≡◌, ℕ, ◌+◌, ◌^◌, ◌<◌, ◌≤◌, List, length, slice_index}

-- Each vertex that is counted has a cell.
abbrev pub HasCells : (ℕ → ℕ) → List ℕ → Type 0
HasCells times heights = (x : ℕ) → 1 ≤ times x → x < length heights

-- Each cell can rise by h and still fit 32 bits.
abbrev pub CanRise : (ℕ → ℕ) → List ℕ → Type 0
CanRise h heights = (x : ℕ) → slice_index heights x + h x < 2 ^ 32

-- Each cell rises by h.
abbrev pub Rises : (ℕ → ℕ) → List ℕ → List ℕ → Type 0
Rises h old new = (x : ℕ) → slice_index new x ≡ slice_index old x + h x

-- Each cell can fall by h.
abbrev pub CanFall : (ℕ → ℕ) → List ℕ → Type 0
CanFall h heights = (x : ℕ) → h x ≤ slice_index heights x

-- Each cell falls by h.
abbrev pub Falls : (ℕ → ℕ) → List ℕ → List ℕ → Type 0
Falls h old new = (x : ℕ) → slice_index new x + h x ≡ slice_index old x

-- The cells have the heights h.
abbrev pub HeightsAre : List ℕ → (ℕ → ℕ) → Type 0
HeightsAre heights h = (x : ℕ) → slice_index heights x ≡ h x
