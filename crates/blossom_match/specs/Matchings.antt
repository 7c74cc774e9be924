-- Perfect matchings with an optimal dual solution, after J. Edmonds, "Maximum matching and a
-- polyhedron with 0,1-vertices", Journal of Research of the National Bureau of Standards 69B
-- (1965). A place is a vertex, and a moat is an odd set with its dual variable, called its width.
-- Distances count steps; widths of moats count halves of a step.
use Rattle.std.specs.Prelude.{◌≡◌, ◌≢◌, ◌==◌, ℕ, ◌+◌, ◌*◌, ◌%◌, ◌<◌, ◌≤◌, ◌⊎◌, Bool, true, false, not, List, length, nat_lt, if◌then◌else◌}
use Rattle.std.specs.List.{All, AllPairs, list_any, sum_by}
use Rattle.odd_sets.specs.Tables.{entry}
use Rattle.odd_sets.specs.TableValue.{TableValue}
use Rattle.blossom_match.specs.declared.matching.Moat.{Moat}
use Rattle.blossom_match.specs.declared.matching.Pair.{Pair}

-- The number of pairs' ends that a place is.
abbrev pub pair_ends_at : List Pair → ℕ → ℕ
pair_ends_at pairs x = sum_by (λ (p : Pair). (if x == p.a then 1 else 0)
    + (if x == p.b then 1 else 0))
    pairs

-- A perfect matching: each place below n is an end of exactly one pair, and no other number is an
-- end.
abbrev pub IsPerfectMatching : ℕ → List Pair → Type 0
IsPerfectMatching n pairs = (x : ℕ) → pair_ends_at pairs x ≡ (if nat_lt x n then 1 else 0)

-- A place is a member of a moat.
abbrev pub moat_holds : Moat → ℕ → Bool
moat_holds m x = list_any (λ y. x == y) m.members

-- A moat over n places: an odd number of different places below n, with a width of at least 1.
pub record IsOddMoat (n : ℕ) (m : Moat) : Type 0 where
  pub odd : length m.members % 2 ≡ 1
  pub different : AllPairs (λ x y. x ≢ y) m.members
  pub below : All (λ x. x < n) m.members
  pub wide : 1 ≤ m.width

-- A moat holds exactly one of two places.
abbrev pub crosses_moat : ℕ → ℕ → Moat → Bool
crosses_moat a b m = if moat_holds m a then not (moat_holds m b) else moat_holds m b

-- Each member of the first moat is a member of the second.
abbrev pub IsNestedIn : Moat → Moat → Type 0
IsNestedIn m k = (x : ℕ) → moat_holds m x ≡ true → moat_holds k x ≡ true

-- Two moats have no common member.
abbrev pub IsDisjointFrom : Moat → Moat → Type 0
IsDisjointFrom m k = (x : ℕ) → moat_holds m x ≡ true → moat_holds k x ≡ false

-- Two moats have different members, and are nested or disjoint.
pub record AreLaminar (m k : Moat) : Type 0 where
  pub differ : (x : ℕ) × (moat_holds m x ≢ moat_holds k x)
  pub lie : IsNestedIn m k ⊎ IsNestedIn k m ⊎ IsDisjointFrom m k

-- The load on two places: the widths of the moats that hold exactly one of them, added up.
abbrev pub moat_load : List Moat → ℕ → ℕ → ℕ
moat_load moats a b = sum_by (λ (m : Moat). if crosses_moat a b m then m.width else 0) moats

-- A dual feasible list of moats: no load exceeds two halves for each step of the distance.
abbrev pub KeepsMoatLoads : TableValue → List Moat → Type 0
KeepsMoatLoads t moats = (a b : ℕ) → a < t.places → b < t.places
    → moat_load moats a b ≤ 2 * entry t a b

-- The cost of a list of pairs: the distances of all pairs, added up.
abbrev pub pairs_cost : TableValue → List Pair → ℕ
pairs_cost t pairs = sum_by (λ (p : Pair). entry t p.a p.b) pairs

-- The total width of a list of moats.
abbrev pub width_of : List Moat → ℕ
width_of moats = sum_by (λ (m : Moat). m.width) moats

-- A perfect matching whose moats are a feasible dual solution of twice its cost. By duality no
-- perfect matching costs less.
pub record IsOptimalMatching (t : TableValue) (pairs : List Pair) (moats : List Moat) : Type 0 where
  pub paired : IsPerfectMatching t.places pairs
  pub odd : All (IsOddMoat t.places) moats
  pub laminar : AllPairs AreLaminar moats
  pub loads : KeepsMoatLoads t moats
  pub paid : width_of moats ≡ 2 * pairs_cost t pairs
