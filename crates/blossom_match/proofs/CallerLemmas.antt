-- Lemmas that this crate and those above cite.
use Rattle.std.proofs.Common.{Bool, List, arith, cond, false, nat_lt, refl, true, ℕ, ◌<◌, ◌≡◌, ◌≤◌}
use Rattle.blossom_match.proofs.Names.{nat_tests, IsPerfectMatching, pair_ends_at, Pair}

-- a number that is an end of a pair is a place
pub ends_below : (n : ℕ) (pairs : List Pair) → IsPerfectMatching n pairs → (x : ℕ) → 1 ≤ pair_ends_at pairs x → x < n
ends_below n pairs each x some = by_test (nat_lt x n) refl
  where
    less : (m n : ℕ) → nat_lt m n ≡ true → m < n
    less m n is = grind (arith, nat_tests)

    none : (t : Bool) → t ≡ false → cond t 1 0 < 1
    none true is = absurd (cc)
    none false is = omega arith

    by_test : (t : Bool) → nat_lt x n ≡ t → x < n
    by_test true is = less x n is
    by_test false is = absurd (omega (arith, some, each x, none (nat_lt x n) is))
