-- Square roots, rounded down.
use Rattle.std.proofs.Common.{◌≡◌, ℕ, zero, suc, ◌+◌, ◌*◌, ◌^◌, ◌<◌, ◌≤◌, true, false, nat_le, arith, sym, subst, ◌⊎◌, inl, inr, if◌then◌else◌}
use Rattle.std.proofs.lemmas.Bool.{le-leb, lt-leb}
use native.Mathlib.Nat.{mul-le-mul}
use Rattle.design_model.specs.Lengths.{root_from, whole_root}

-- A root of n, rounded down.
pub record IsRoot (n root : ℕ) : Type 0 where
  pub low : root * root ≤ n
  pub high : n < (root + 1) * (root + 1)

-- Only one number is a root.
below : (n a b : ℕ) → IsRoot n a → IsRoot n b → a < b → ⊥
below n a b one other less =
    let step : (a + 1) * (a + 1) ≤ b * b = mul-le-mul (omega (arith, less)) (omega (arith, less)) in
    omega (arith, step, one.high, other.low)

next : (a b : ℕ) → (a ≤ b) ⊎ (b < a) → (suc a ≤ suc b) ⊎ (suc b < suc a)
next a b (inl is) = inl (omega (arith, is))
next a b (inr is) = inr (omega (arith, is))

compared : (a b : ℕ) → (a ≤ b) ⊎ (b < a)
compared zero b = inl (omega arith)
compared (suc a) zero = inr (omega arith)
compared (suc a) (suc b) = next a b (compared a b)

same_by : (n a b : ℕ) → IsRoot n a → IsRoot n b → (a ≤ b) ⊎ (b < a) → (b ≤ a) ⊎ (a < b) → a ≡ b
same_by n a b one other (inr less) sides = absurd (below n b a other one less)
same_by n a b one other (inl le) (inr less) = absurd (below n a b one other less)
same_by n a b one other (inl le) (inl ge) = omega (arith, le, ge)

-- The next digit of a root, which is 1 where the square with it isn't greater than n.
digit : (n k root : ℕ) → ((root + 2 ^ k) * (root + 2 ^ k) ≤ n) ⊎ (n < (root + 2 ^ k) * (root + 2 ^ k))
    → ((r : ℕ) → r * r ≤ n → n < (r + 2 ^ k) * (r + 2 ^ k) → IsRoot n (root_from n k r))
    → root * root ≤ n → n < (root + 2 ^ suc k) * (root + 2 ^ suc k) → IsRoot n (root_from n (suc k) root)
digit n k root (inl le) more low high =
    let double : root + 2 ^ suc k ≡ root + 2 ^ k + 2 ^ k = omega arith in
    let is : nat_le ((root + 2 ^ k) * (root + 2 ^ k)) n ≡ true = le-leb _ _ le in
    subst (λ t. IsRoot n (root_from n k (if t then root + 2 ^ k else root))) (sym is)
    (more (root + 2 ^ k) le (subst (λ m. n < m * m) double high))
digit n k root (inr less) more low high =
    let is : nat_le ((root + 2 ^ k) * (root + 2 ^ k)) n ≡ false = lt-leb _ _ less in
    subst (λ t. IsRoot n (root_from n k (if t then root + 2 ^ k else root))) (sym is) (more root low less)

-- The digits give a root.
from_is_root : (n k root : ℕ) → root * root ≤ n → n < (root + 2 ^ k) * (root + 2 ^ k) → IsRoot n (root_from n k root)
from_is_root n zero root low high = record { low = low; high = high }
from_is_root n (suc k) root low high =
    digit n k root (compared ((root + 2 ^ k) * (root + 2 ^ k)) n) (λ r. from_is_root n k r) low high

pub whole_root_is : (n root : ℕ) → n < 2 ^ 128 → root * root ≤ n → n < (root + 1) * (root + 1) → root ≡ whole_root n
unfolding whole_root
whole_root_is n root less low high = same_by n root (root_from n 64 0) (record { low = low; high = high })
    (from_is_root n 64 0 (omega arith) (omega (arith, less))) (compared root (root_from n 64 0)) (compared (root_from n 64 0) root)
