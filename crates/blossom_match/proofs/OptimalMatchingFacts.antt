-- Pairs and moats that are no optimal matching, each for one reason, and what optimality excludes.
use Rattle.std.proofs.Common.{◌≡◌, ℕ, ◌+◌, ◌*◌, ◌<◌, ◌≤◌, List, [], ◌∷◌, refl, arith}
use Rattle.blossom_match.proofs.Names.{All, AllPairs, AreLaminar, IsOddMoat, IsOptimalMatching, IsPerfectMatching, moat_load, pairs_cost, width_of, TableValue, HasTriangleInequality, IsMetric, IsTable, entry, Moat, Pair}
use Rattle.blossom_match.specs.LeastMatchings.{NoneCostsLess}

abbrev pair : ℕ → ℕ → Pair
pair a b = record { a = a; b = b }

abbrev moat : List ℕ → ℕ → Moat
moat members width = record { members = members; width = width }

-- two places five steps apart
abbrev segment : TableValue
segment = record { places = 2; cells = 0 ∷ 5 ∷ 5 ∷ 0 ∷ [] }

-- four places of one axis, at 0, 1, 11 and 12
abbrev axis : TableValue
axis = record { places = 4; cells = 0 ∷ 1 ∷ 11 ∷ 12 ∷ 1 ∷ 0 ∷ 10 ∷ 11 ∷ 11 ∷ 10 ∷ 0 ∷ 1 ∷ 12 ∷ 11 ∷ 1 ∷ 0 ∷ [] }

-- a place without a pair, where no moat is needed
pub known_unpaired : IsOptimalMatching segment [] [] → ⊥
known_unpaired is = none (is.paired 0)
  where
    none : ◌≡◌ {A = ℕ} 0 1 → ⊥
    none same = omega (arith, same)

-- a place with itself, and each place in two pairs
pub known_self : IsPerfectMatching 2 (pair 0 0 ∷ pair 1 1 ∷ []) → ⊥
known_self each = two (each 0)
  where
    two : ◌≡◌ {A = ℕ} 2 1 → ⊥
    two same = omega (arith, same)

-- a moat of two places, which no load and no total shows
pub known_even : IsOptimalMatching segment (pair 0 1 ∷ []) (moat (0 ∷ []) 10 ∷ moat (0 ∷ 1 ∷ []) 0 ∷ []) → ⊥
known_even is = even (is.odd 1 (moat [] 0) (omega arith)).odd
  where
    even : ◌≡◌ {A = ℕ} 0 1 → ⊥
    even same = omega (arith, same)

-- two moats of the same members, of one place or of the other
pub known_alike : IsOptimalMatching segment (pair 0 1 ∷ []) (moat (0 ∷ []) 4 ∷ moat (0 ∷ []) 6 ∷ []) → ⊥
known_alike is = (is.laminar 0 1 (moat [] 0) (omega arith) (omega arith)).differ.1 refl

-- 11 halves lie between two places five steps apart, though the pair is paid by as many as it costs
pub known_overload : (pairs : List Pair) → IsOptimalMatching segment pairs (moat (0 ∷ []) 5 ∷ moat (1 ∷ []) 6 ∷ []) → ⊥
known_overload pairs is = heavy (is.loads 0 1 (omega arith) (omega arith))
  where
    heavy : 11 ≤ 10 → ⊥
    heavy more = omega (arith, more)

-- a half less, or more, than twice the cost
pub known_unpaid : IsOptimalMatching segment (pair 0 1 ∷ []) (moat (0 ∷ []) 9 ∷ []) → ⊥
known_unpaid is = less is.paid
  where
    less : ◌≡◌ {A = ℕ} 9 10 → ⊥
    less same = omega (arith, same)

-- the pairs of the axis that cross its middle cost 22 steps, and those beside it 2
pub known_costs : (pairs_cost axis (pair 0 1 ∷ pair 2 3 ∷ []) ≡ 2) × (pairs_cost axis (pair 0 2 ∷ pair 1 3 ∷ []) ≡ 22)
known_costs = (refl, refl)

-- no moats make the dear pairs optimal, whatever the clauses on moats say of them
pub known_dear : NoneCostsLess → (moats : List Moat) → IsPerfectMatching 4 (pair 0 1 ∷ pair 2 3 ∷ [])
    → IsOptimalMatching axis (pair 0 2 ∷ pair 1 3 ∷ []) moats → ⊥
known_dear law moats beside is = more (law axis (pair 0 2 ∷ pair 1 3 ∷ []) moats is (pair 0 1 ∷ pair 2 3 ∷ []) beside)
  where
    more : 22 ≤ 2 → ⊥
    more less = omega (arith, less)

-- no perfect matching costs a step less than an optimal one
pub known_none_less : NoneCostsLess → (t : TableValue) (pairs others : List Pair) (moats : List Moat)
    → IsOptimalMatching t pairs moats → IsPerfectMatching t.places others
    → pairs_cost t pairs ≡ pairs_cost t others + 1
    → ⊥
known_none_less law t pairs others moats is other more = omega (arith, law t pairs moats is others other, more)

-- the five properties in one line each
pub known_properties : (t : TableValue) (pairs : List Pair) (moats : List Moat) (a b : ℕ) → IsOptimalMatching t pairs moats
    → a < t.places → b < t.places
    → IsPerfectMatching t.places pairs × All (IsOddMoat t.places) moats × AllPairs AreLaminar moats
    × (moat_load moats a b ≡ 2 * entry t a b + 1 → ⊥) × (width_of moats ≡ pairs_cost t pairs * 2)
known_properties t pairs moats a b is below other = (
  is.paired,
  is.odd,
  is.laminar,
  λ more. omega (arith, more, is.loads a b below other),
  omega (arith, is.paid),
)

-- what is asked of a table: at most 1,024 places, all cells, no distance above 200,000, and no shortcut
pub known_table : (t : TableValue) → IsMetric t → (t.places ≡ 1025 → ⊥) × HasTriangleInequality t
known_table t is = (λ more. omega (arith, more, is.table.few), is.triangles)

pub known_far : (t : TableValue) (a b : ℕ) → IsTable t → a < t.places → b < t.places → entry t a b ≡ 200001 → ⊥
known_far t a b is below other far = omega (arith, far, is.short a b below other)
