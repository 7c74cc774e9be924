-- Quotients of equal parts, as natural numbers: (i * d + c) / n for i from 0 to n.
use Rattle.std.proofs.Common.{◌≡◌, ℕ, ◌+◌, ◌*◌, ◌/◌, ◌<◌, ◌≤◌, arith}
use Rattle.std.proofs.lemmas.Nat.{le-div}
use Rattle.std.specs.Int.{div_ceil}
use Rattle.step_splitter.proofs.Names.{nat_tests, div_ceil_times, div-eq_of_lt, add-mul-div_left, div-mul-le_self, mul-le-mul_right}

-- a number of at least 1 over another one, rounded up, is at least 1
pub div_ceil_some : (s step : ℕ) → 1 ≤ s → 1 ≤ step → 1 ≤ div_ceil s step
div_ceil_some s step some low = let t = div_ceil_times s step low in grind arith

-- and at most the number
pub div_ceil_few : (s step : ℕ) → 1 ≤ step → div_ceil s step ≤ s
div_ceil_few s step low = let t = div_ceil_times s step low in grind arith

-- the number is at most the parts times the step
pub div_ceil_covers : (s step : ℕ) → 1 ≤ step → s ≤ div_ceil s step * step
div_ceil_covers s step low = (div_ceil_times s step low).0

-- quotients by the same number don't fall
pub div-mono : (x y n : ℕ) → 1 ≤ n → x ≤ y → x / n ≤ y / n
div-mono x y n some le = le-div (x / n) y n some (omega (arith, div-mul-le_self x n))

-- n times a number more raises the quotient by that number
pub div-more : (x k n : ℕ) → 1 ≤ n → (x + n * k) / n ≡ x / n + k
div-more x k n some = add-mul-div_left x k some

-- one part more is the distance more
pub next_part : (i d c : ℕ) → (i + 1) * d + c ≡ (i * d + c) + d
next_part i d c = omega arith

-- one part more adds at most the step
pub part_rises_little : (i d c n step : ℕ) → 1 ≤ n → d ≤ n * step → ((i + 1) * d + c) / n ≤ (i * d + c) / n + step
part_rises_little i d c n step some covers =
    rw (next_part i d c)
    (omega (
      arith,
      div-mono ((i * d + c) + d) ((i * d + c) + n * step) n some (omega arith),
      div-more (i * d + c) step n some,
    ))

-- the parts do not fall
pub part_rises : (i d c n : ℕ) → 1 ≤ n → (i * d + c) / n ≤ ((i + 1) * d + c) / n
part_rises i d c n some = grind (arith, nat_tests, next_part i d c, div-mono (i * d + c) ((i * d + c) + d) n some (omega arith))

-- the last part is the distance
pub part_last : (d c n : ℕ) → c < n → (n * d + c) / n ≡ d
part_last d c n small = grind (arith, nat_tests, div-more c d n (omega arith), div-eq_of_lt {n = c})

-- no part passes the distance
pub part_within : (i d c n : ℕ) → c < n → i ≤ n → (i * d + c) / n ≤ d
part_within i d c n small there = grind (arith, nat_tests, div-mono, mul-le-mul_right, part_last)
