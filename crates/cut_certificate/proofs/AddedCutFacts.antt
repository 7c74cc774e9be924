-- The cuts of one moat up to a level, where five junctions enter at the levels 3, 0, 2, 2 and 5.
use Rattle.std.proofs.Common.{◌≡◌, ℕ, zero, suc, ◌<◌, ◌≤◌, ◌⊎◌, inl, inr, List, [], ◌∷◌, length, arith, ⊎_elim}
use Rattle.std.specs.Prelude.{slice_index}
use Rattle.cut_certificate.proofs.Names.{AddsCuts, AreCutsTo, Cut, IsLevelCut, load_on, members_from, total_weight}
use Rattle.cut_certificate.specs.MoatCuts.{IsLevelOf, NoneBetween}

abbrev levels : List ℕ
levels = 3 ∷ 0 ∷ 2 ∷ 2 ∷ 5 ∷ []

-- up to the level 3: their load on an edge is how far its ends enter apart, in all 3, by at most one cut more than levels between
pub known_cuts : (cuts : List Cut) → AreCutsTo levels 3 cuts → (load_on cuts (record { a = 0; b = 1; cost = 9 }) ≡ 3)
    × (load_on cuts (record { a = 2; b = 4; cost = 9 }) ≡ 1) × (load_on cuts (record { a = 4; b = 0; cost = 9 }) ≡ 0)
    × (total_weight cuts ≡ 3) × (length cuts ≤ 3)
known_cuts cuts are = (
  are.loads (record { a = 0; b = 1; cost = 9 }) (omega arith) (omega arith),
  are.loads (record { a = 2; b = 4; cost = 9 }) (omega arith) (omega arith),
  are.loads (record { a = 4; b = 0; cost = 9 }) (omega arith) (omega arith),
  are.total,
  are.few,
)

-- up to the level 0 there is none
pub known_no_cuts : (cuts : List Cut) → AreCutsTo levels 0 cuts → length cuts ≡ 0
known_no_cuts cuts are = omega (arith, are.few)

-- each has a weight, and the junctions up to a level below
pub known_each : (one other : Cut) (are : AreCutsTo levels 3 (one ∷ other ∷ [])) → IsLevelCut levels 3 other
known_each one other are = are.each 1 one (omega arith)

pub known_cut : (cut : Cut) (is : IsLevelCut levels 3 cut)
    → (is.limit < 3) × (1 ≤ cut.weight) × (cut.members ≡ members_from 0 is.limit levels)
known_cut cut is = (is.low, is.heavy, is.members)

-- a level of the five, and that there is none between two numbers
pub known_between : NoneBetween 2 3 levels × (NoneBetween 0 3 levels → ⊥)
known_between = (none, λ between. ⊎_elim low high (between 2 (omega arith)))
  where
    none : (j : ℕ) → j < 5 → (slice_index levels j ≤ 2) ⊎ (3 ≤ slice_index levels j)
    none zero below = inr (omega arith)
    none (suc zero) below = inl (omega arith)
    none (suc (suc zero)) below = inl (omega arith)
    none (suc (suc (suc zero))) below = inl (omega arith)
    none (suc (suc (suc (suc zero)))) below = inr (omega arith)
    none (suc (suc (suc (suc (suc j))))) below = absurd (omega (arith, below))

    low : 2 ≤ 0 → ⊥
    low less = omega (arith, less)

    high : 3 ≤ 2 → ⊥
    high less = omega (arith, less)

pub known_level : (level : ℕ) → IsLevelOf (7 ∷ []) level → level ≡ 7
known_level level is = one is.0 is.1 is.2
  where
    one : (j : ℕ) → j < 1 → slice_index (7 ∷ []) j ≡ level → level ≡ 7
    one zero below is = omega (arith, is)
    one (suc j) below is = omega (arith, below)

-- cuts of a kind come after those before
pub known_added : (cut : Cut) (new : List Cut) (is : AddsCuts (λ cuts. length cuts ≡ 2) (cut ∷ []) new)
    → (length is.more ≡ 2) × (new ≡ cut ∷ is.more)
known_added cut new is = (is.kind, is.is)
