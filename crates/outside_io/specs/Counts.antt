-- Counts of faults and calls: 64-bit numbers that never fall, and stop at their maximum.
use Rattle.std.specs.Prelude.{◌≡◌, ◌≢◌, ℕ, ◌+◌, ◌<◌, ◌⊎◌, min}

-- The maximum of a count: the largest 64-bit number.
abbrev pub MAX_COUNT : ℕ
MAX_COUNT = 18446744073709551615

-- The count after one more.
abbrev pub next_count : ℕ → ℕ
next_count count = min (count + 1) MAX_COUNT

-- A count that rose, or has reached its maximum.
abbrev pub Rose : ℕ → ℕ → Type 0
Rose before now = (before < now) ⊎ (now ≡ MAX_COUNT)

-- A count with no new fault: it is unchanged, and below its maximum.
pub record IsFaultless (before now : ℕ) : Type 0 where
  pub same : now ≡ before
  pub below : now ≢ MAX_COUNT
