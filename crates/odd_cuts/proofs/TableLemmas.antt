-- Tables and lists by index.
use Rattle.std.proofs.Common.{◌≡◌, ◌≤◌, ◌<◌, ℕ, zero, suc, ◌+◌, true, List, [], ◌∷◌, length, drop, get_or, replicate, set, arith, refl, ◌∙◌}
use Rattle.odd_cuts.proofs.Names.{and_parts, nat_tests, Edge, all_below, ends_below, and_from, at_drop_more, length-set}

-- each entry of a blank table is the same
pub blank : {X : Type 0} (x : X) (count i : ℕ) → get_or (replicate count x) i x ≡ x
blank x zero i = refl
blank x (suc count) zero = refl
blank x (suc count) (suc i) = blank x count i

-- the items from an index on begin with the item there
pub at_place : {X : Type 0} (xs : List X) (i : ℕ) (d : X) → i < length xs → drop i xs ≡ get_or xs i d ∷ drop (i + 1) xs
at_place xs i d less = at_drop_more (λ ys. ys) xs i d less

-- where all numbers are below a limit, so is that at an index
pub below_at : (most : ℕ) (xs : List ℕ) (i d : ℕ) → all_below most xs ≡ true → i < length xs → get_or xs i d < most
below_at most [] i d below less = absurd (omega (arith, less))
below_at most (x ∷ xs) zero d below less = grind (arith, nat_tests)
below_at most (x ∷ xs) (suc i) d below less = grind (arith, nat_tests, below_at most xs i d, and_parts)

pub ends_within : (count most : ℕ) (edges : List Edge) → count ≤ most → ends_below count edges ≡ true → ends_below most edges ≡ true
ends_within count most [] less below = refl
ends_within count most (e ∷ edges) less below = grind (arith, nat_tests, ends_within count most edges less, and_from, and_parts)

-- a table keeps its length
pub length_set : {X : Type 0} (xs : List X) (i : ℕ) (x : X) (n : ℕ) → length xs ≡ n → length (set xs i x) ≡ n
length_set xs i x n sized = length-set xs i x ∙ sized
