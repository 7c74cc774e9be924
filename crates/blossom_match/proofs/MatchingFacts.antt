-- Worked values of matchings with moats.
use Rattle.std.proofs.Common.{◌≡◌, ℕ, ◌≤◌, ◌<◌, true, false, List, [], ◌∷◌, refl, sym, arith, ⊎_elim, true≢false}
use Rattle.blossom_match.proofs.Names.{TableValue, IsTable, HasTriangleInequality, entry, AreLaminar, IsOptimalMatching, IsOddMoat, KeepsMoatLoads, IsPerfectMatching, pairs_cost, crosses_moat, pair_ends_at, moat_holds, moat_load, width_of, Moat, Pair, IsStored, after_set}

abbrev pair : ℕ → ℕ → Pair
pair a b = record { a = a; b = b }

abbrev alone : ℕ → Moat
alone x = record { members = x ∷ []; width = 1 }

-- four places, each a step from each
abbrev star : TableValue
star = record { places = 4; cells = 0 ∷ 1 ∷ 1 ∷ 1 ∷ 1 ∷ 0 ∷ 1 ∷ 1 ∷ 1 ∷ 1 ∷ 0 ∷ 1 ∷ 1 ∷ 1 ∷ 1 ∷ 0 ∷ [] }

abbrev two_pairs : List Pair
two_pairs = pair 0 1 ∷ pair 2 3 ∷ []

abbrev four_moats : List Moat
four_moats = alone 0 ∷ alone 1 ∷ alone 2 ∷ alone 3 ∷ []

-- two pairs hold each of the four places once, and no fifth
pub known_pair_ends_at : (pair_ends_at two_pairs 2 ≡ 1)
    × (pair_ends_at two_pairs 4 ≡ 0)
    -- one pair at a place twice has two ends there
    × (pair_ends_at (pair 1 1 ∷ []) 1 ≡ 2)
known_pair_ends_at = (refl, refl, refl)

-- two steps in all, paid by four halves; two halves lie between any two places
pub known_cost : (pairs_cost star two_pairs ≡ 2)
    × (width_of four_moats ≡ 4)
    × (moat_load four_moats 0 3 ≡ 2)
known_cost = (refl, refl, refl)

-- places 3, 5, 0 and 9 of one axis: the pairs from 3 to 0 and from 5 to 9 are 7 steps
pub known_line : pairs_cost (record { places = 4; cells = 0 ∷ 2 ∷ 3 ∷ 6 ∷ 2 ∷ 0 ∷ 5 ∷ 4 ∷ 3 ∷ 5 ∷ 0 ∷ 9 ∷ 6 ∷ 4 ∷ 9 ∷ 0 ∷ [] })
    (pair 0 2 ∷ pair 1 3 ∷ []) ≡ 7
known_line = refl

-- a moat of three places is crossed from inside to outside, and not inside
pub known_crosses_moat : (crosses_moat 1 4 (record { members = 0 ∷ 1 ∷ 2 ∷ []; width = 5 }) ≡ true)
    × (crosses_moat 1 2 (record { members = 0 ∷ 1 ∷ 2 ∷ []; width = 5 }) ≡ false)
known_crosses_moat = (refl, refl)

pub known_member : moat_holds (alone 3) 3 ≡ true
known_member = refl

-- the entry of two places is set both ways, and no other
pub known_after_set : (after_set star 1 2 7 2 1 ≡ 7)
    × (after_set star 1 2 7 2 3 ≡ 1)
known_after_set = (refl, refl)

-- the distance of two places does not depend on which is named first
pub known_entry : (entry star 2 1 ≡ 1)
    × (entry star 2 2 ≡ 0)
known_entry = (refl, refl)

pub known_set_straight : after_set star 1 2 7 1 2 ≡ 7
known_set_straight = refl

-- the two numbers are not the same
abbrev Differ : ℕ → ℕ → Type 0
Differ m n = m ≡ n → ⊥

-- two pairs are no matching of five places, nor of three
pub known_left_out : IsPerfectMatching 5 two_pairs → ⊥
known_left_out each = none (each 4)
  where
    none : Differ 0 1
    none is = omega (arith, is)

pub known_outside : IsPerfectMatching 3 two_pairs → ⊥
known_outside each = one (each 3)
  where
    one : Differ 1 0
    one is = omega (arith, is)

abbrev moat : List ℕ → ℕ → Moat
moat members width = record { members = members; width = width }

-- a moat is neither even, nor holds a place twice or one outside of the table, and it has a width
pub known_even : IsOddMoat 4 (moat (0 ∷ 1 ∷ []) 1) → ⊥
known_even is = zero is.odd
  where
    zero : Differ 0 1
    zero is = omega (arith, is)

pub known_twice : IsOddMoat 4 (moat (0 ∷ 0 ∷ 1 ∷ []) 1) → ⊥
known_twice is = is.different 0 1 0 (omega arith) (omega arith) refl

pub known_far : IsOddMoat 4 (moat (4 ∷ []) 1) → ⊥
known_far is = far (is.below 0 0 (omega arith))
  where
    far : 4 < 4 → ⊥
    far is = omega (arith, is)

pub known_flat : IsOddMoat 4 (moat (0 ∷ []) 0) → ⊥
known_flat is = omega (arith, is.wide)

-- two moats are neither alike nor cross
pub known_alike : AreLaminar (moat (0 ∷ 1 ∷ 2 ∷ []) 1) (moat (0 ∷ 1 ∷ 2 ∷ []) 2) → ⊥
known_alike laminar = laminar.differ.1 refl

pub known_across : AreLaminar (moat (0 ∷ 1 ∷ 2 ∷ []) 1) (moat (2 ∷ 3 ∷ 4 ∷ []) 1) → ⊥
known_across laminar = ⊎_elim (λ inside. true≢false (sym (inside 0 refl)))
    (λ other. ⊎_elim (λ around. true≢false (sym (around 3 refl))) (λ beside. true≢false (beside 2 refl)) other) laminar.lie

-- three halves are too much for one step, and the widths are twice the cost
pub known_heavy : KeepsMoatLoads star (moat (0 ∷ []) 3 ∷ []) → ⊥
known_heavy keeps = heavy (keeps 0 1 (omega arith) (omega arith))
  where
    heavy : 3 ≤ 2 → ⊥
    heavy is = omega (arith, is)

pub known_unpaid : IsOptimalMatching star two_pairs (alone 0 ∷ alone 1 ∷ []) → ⊥
known_unpaid is = half is.paid
  where
    half : Differ 2 4
    half is = omega (arith, is)

-- a table of n places with these cells
abbrev table : ℕ → List ℕ → TableValue
table places cells = record { places = places; cells = cells }

-- a table has all its cells, and none above the largest distance
pub known_few : IsTable (table 2 (0 ∷ 1 ∷ 1 ∷ [])) → ⊥
known_few is = few is.filled
  where
    few : Differ 3 4
    few is = omega (arith, is)

pub known_long : IsTable (table 2 (0 ∷ 200001 ∷ 200001 ∷ 0 ∷ [])) → ⊥
known_long is = long (is.short 0 1 (omega arith) (omega arith))
  where
    long : 200001 ≤ 200000 → ⊥
    long is = omega (arith, is)

-- it is stored both ways, with 0 between a place and itself
pub known_one_way : IsStored (table 2 (0 ∷ 1 ∷ 2 ∷ 0 ∷ [])) → ⊥
known_one_way is = other (is.mirror 1 0 (omega arith) (omega arith))
  where
    other : Differ 2 1
    other is = omega (arith, is)

pub known_round : IsStored (table 2 (0 ∷ 1 ∷ 1 ∷ 5 ∷ [])) → ⊥
known_round is = round (is.diagonal 1 (omega arith))
  where
    round : Differ 5 0
    round is = omega (arith, is)

-- 3 steps from 0 to 2 are more than 2 by way of 1
pub known_shorter : HasTriangleInequality (table 3 (0 ∷ 1 ∷ 3 ∷ 1 ∷ 0 ∷ 1 ∷ 3 ∷ 1 ∷ 0 ∷ [])) → ⊥
known_shorter keeps = shorter (keeps 0 1 (omega arith) (omega arith) 2 (omega arith))
  where
    shorter : 3 ≤ 2 → ⊥
    shorter is = omega (arith, is)
