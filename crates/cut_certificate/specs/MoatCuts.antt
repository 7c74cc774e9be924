-- The cuts of one moat, by the levels of the junctions. Weights and levels count halves of a step.
use Rattle.std.specs.Prelude.{◌≡◌, ℕ, ◌+◌, ◌-◌, ◌<◌, ◌≤◌, ◌⊎◌, ◌&&◌, min, List, [], ◌∷◌, ◌++◌, All, length, nat_le, nat_lt, slice_index, if◌then◌else◌}
use Rattle.odd_cuts.specs.declared.cut.Cut.{Cut}
use Rattle.odd_cuts.specs.Cuts.{load_on, total_weight}
use Rattle.line_graph.specs.declared.edge.Edge.{Edge}

-- The junctions whose level is at most a limit, where the first of the levels is that of junction
-- k.
abbrev pub members_from : (k limit : ℕ) → List ℕ → List ℕ
members_from k limit [] = []
members_from k limit (level ∷ rest) =
    if nat_le level limit
    then k ∷ members_from (k + 1) limit rest
    else members_from (k + 1) limit rest

-- The distance of two numbers.
abbrev pub distance_between : ℕ → ℕ → ℕ
distance_between a b = (a - b) + (b - a)

-- Each level is at most `from` or at least `next`.
abbrev pub NoneBetween : (from next : ℕ) → List ℕ → Type 0
NoneBetween from next levels =
    (j : ℕ) → j < length levels → (slice_index levels j ≤ from) ⊎ (next ≤ slice_index levels j)

-- One of the levels.
abbrev pub IsLevelOf : List ℕ → ℕ → Type 0
IsLevelOf levels level = (j : ℕ) × (j < length levels) × (slice_index levels j ≡ level)

-- The number of levels above 0 and below the top.
abbrev pub levels_below : ℕ → List ℕ → ℕ
levels_below top [] = 0
levels_below top (level ∷ rest) =
    (if nat_lt 0 level && nat_lt level top then 1 else 0) + levels_below top rest

-- A cut of the junctions up to a level below the top.
pub record IsLevelCut (levels : List ℕ) (top : ℕ) (cut : Cut) : Type 0 where
  pub limit : ℕ
  pub low : limit < top
  pub heavy : 1 ≤ cut.weight
  pub members : cut.members ≡ members_from 0 limit levels

-- The cuts of a moat up to the level `top`. Their load on an edge is the distance of the levels of
-- its ends. There is one more than levels between 0 and the top, or none.
pub record AreCutsTo (levels : List ℕ) (top : ℕ) (cuts : List Cut) : Type 0 where
  pub loads : (e : Edge) → e.a < length levels → e.b < length levels
      → load_on cuts e
      ≡ distance_between (min top (slice_index levels e.a)) (min top (slice_index levels e.b))
  pub total : total_weight cuts ≡ top
  pub each : All (IsLevelCut levels top) cuts
  pub few : length cuts ≤ (if nat_lt 0 top then 1 else 0) + levels_below top levels

-- Cuts of a kind are appended.
pub record AddsCuts (Kind : List Cut → Type 0) (old new : List Cut) : Type 0 where
  pub more : List Cut
  pub kind : Kind more
  pub is : new ≡ old ++ more
