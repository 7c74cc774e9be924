-- Loads of moats over the terminals of rows, in half steps.
use Rattle.std.specs.Prelude.{ℕ, ◌*◌, ◌<◌, ◌≤◌, List, [], ◌∷◌, length, pos, slice_index}
use Rattle.blossom_match.specs.declared.matching.Moat.{Moat}
use Rattle.blossom_match.specs.Matchings.{moat_load}
use Rattle.design_model.specs.declared.point.Point.{Point}
use Rattle.odd_paths.specs.LeastRows.{RowsValue, cost_at}

-- The load on two terminals is at most two halves for each step between them.
abbrev pub KeepsLoad : RowsValue → List ℕ → List Moat → ℕ → ℕ → Type 0
KeepsLoad rows terminals moats t u =
    moat_load moats t u ≤ 2 * cost_at rows t (slice_index terminals u)

-- The load between a terminal and each other isn't too high.
abbrev pub KeepsLoadsFrom : RowsValue → List ℕ → List Moat → ℕ → Type 0
KeepsLoadsFrom rows terminals moats t =
    (u : ℕ) → u < length terminals → KeepsLoad rows terminals moats t u

-- The load on each two terminals isn't too high.
abbrev pub KeepsLoads : RowsValue → List ℕ → List Moat → Type 0
KeepsLoads rows terminals moats = (t u : ℕ) → t < length terminals → u < length terminals
    → KeepsLoad rows terminals moats t u

-- A point on the x axis.
abbrev pub corner : ℕ → Point
corner x = record { x = pos x; y = pos 0 }

-- The junctions of a tree.
abbrev pub corner_points : List Point
corner_points = corner 0 ∷ corner 10 ∷ corner 20 ∷ corner 30 ∷ corner 40 ∷ corner 50 ∷ corner 60
    ∷ corner 70 ∷ []
