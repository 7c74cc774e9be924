-- Lemmas on lengths: a root is no less than each number whose square is no more, and below 2 ^ 64.
use Rattle.std.proofs.Common.{◌≡◌, ◌⊎◌, inl, inr, ◌+◌, ◌*◌, ◌^◌, ◌<◌, ◌≤◌, ℕ, zero, suc, Bool, true, false, Option, Some, None, nat_le, unsigned_abs, ◌-ℤ◌, if◌then◌else◌, refl, arith}
use native.Mathlib.Nat.{mul-le-mul}
use Rattle.near_pieces.proofs.Names.{nat_tests, Point, Visit, way_to}
use Rattle.design_model.specs.Lengths.{length_of, root_from, square_of, whole_root}
use Rattle.near_pieces.specs.Visits.{entry_from}

compared : (a b : ℕ) → (a ≤ b) ⊎ (b < a)
compared zero b = inl (omega arith)
compared (suc a) zero = inr (omega arith)
compared (suc a) (suc b) = next (compared a b) where
  next : (a ≤ b) ⊎ (b < a) → (suc a ≤ suc b) ⊎ (suc b < suc a)
  next (inl is) = inl (omega (arith, is))
  next (inr is) = inr (omega (arith, is))

-- With the next digit of a root, which is 1 where the square with it isn't greater than n.
digit_no_less : (n k root r : ℕ) (b : Bool) → nat_le ((root + 2 ^ k) * (root + 2 ^ k)) n ≡ b
    → ((t : ℕ) → r < t + 2 ^ k → r ≤ root_from n k t) → r * r ≤ n → r < root + 2 ^ suc k
    → r ≤ root_from n k (if b then root + 2 ^ k else root)
digit_no_less n k root r true is more square below = more (root + 2 ^ k) (omega (arith, below))
digit_no_less n k root r false is more square below =
    let high : n < (root + 2 ^ k) * (root + 2 ^ k) = grind (arith, nat_tests) in
    more root (smaller high (compared (root + 2 ^ k) r)) where
      smaller : n < (root + 2 ^ k) * (root + 2 ^ k) → (root + 2 ^ k ≤ r) ⊎ (r < root + 2 ^ k) → r < root + 2 ^ k
      smaller high (inl over) =
          let squares : (root + 2 ^ k) * (root + 2 ^ k) ≤ r * r = mul-le-mul over over in
          absurd (omega (arith, squares, high, square))
      smaller high (inr less) = less

root_no_less : (n k root r : ℕ) → r * r ≤ n → r < root + 2 ^ k → r ≤ root_from n k root
root_no_less n zero root r square below = omega (arith, below)
root_no_less n (suc k) root r square below =
    digit_no_less n k root r (nat_le ((root + 2 ^ k) * (root + 2 ^ k)) n) refl (λ t. root_no_less n k t r square) square below

digit_below : (n k root : ℕ) (b : Bool) → ((t : ℕ) → root_from n k t < t + 2 ^ k)
    → root_from n k (if b then root + 2 ^ k else root) < root + 2 ^ suc k
digit_below n k root true more = omega (arith, more (root + 2 ^ k))
digit_below n k root false more = omega (arith, more root)

root_below : (n k root : ℕ) → root_from n k root < root + 2 ^ k
root_below n zero root = omega arith
root_below n (suc k) root = digit_below n k root (nat_le ((root + 2 ^ k) * (root + 2 ^ k)) n) (root_below n k)

-- A way is shorter than 2 ^ 64.
pub way_below : (from : Option Point) (v : Visit) → way_to from v < 2 ^ 64
unfolding length_of whole_root
way_below None v = omega arith
way_below (Some p) v = omega (arith, root_below (10000 * square_of p (entry_from (Some p) v)) 64 0)

-- A length is no less than the way along either axis.
pub axes_no_more : (p q : Point)
    → (unsigned_abs (q.x -ℤ p.x) < 2 ^ 32 → 100 * unsigned_abs (q.x -ℤ p.x) ≤ length_of p q)
    × (unsigned_abs (q.y -ℤ p.y) < 2 ^ 32 → 100 * unsigned_abs (q.y -ℤ p.y) ≤ length_of p q)
unfolding length_of square_of whole_root
axes_no_more p q =
    let x = unsigned_abs (q.x -ℤ p.x) in
    let y = unsigned_abs (q.y -ℤ p.y) in
    (λ small. one x y (x * x + y * y) refl small, λ small. one y x (x * x + y * y) (omega arith) small) where
      one : (way other square : ℕ) → square ≡ way * way + other * other → way < 2 ^ 32
          → 100 * way ≤ root_from (10000 * square) 64 0
      one way other square is small = root_no_less (10000 * square) 64 0 (100 * way) (omega (arith, is)) (omega (arith, small))
