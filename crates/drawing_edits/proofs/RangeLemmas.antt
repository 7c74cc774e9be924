-- Ranges of indexes of lines, and the indexes that pass a test.
use Rattle.std.proofs.Common.{◌≡◌, ◌<◌, ℕ, zero, suc, ◌+◌, ◌-◌, List, ◌∷◌, ◌++◌, All, Contains, arith, ◌∙◌, ap}
use Rattle.drawing_edits.proofs.Names.{get_or-range_with_len, length-range_with_len, range_with_len}

-- A range from 0 has each number below its length.
pub range_has : (count n : ℕ) → n < count → Contains (range_with_len 0 count) n
range_has count n below = (
  n,
  omega (arith, length-range_with_len 0 count, below),
  get_or-range_with_len 0 count n n below ∙ omega arith,
)

-- A range from 0 has no other number.
pub range_below : (count : ℕ) → All (λ line. line < count) (range_with_len 0 count)
range_below count k e there =
    let place = get_or-range_with_len 0 count k e (omega (arith, length-range_with_len 0 count, there)) in
    omega (arith, place, length-range_with_len 0 count, there)

-- A range in two parts.
pub range_parts : (from some more : ℕ) → range_with_len from (some + more) ≡ range_with_len from some ++ range_with_len (from + some) more
range_parts from zero more =
    let count : zero + more ≡ more = omega arith in
    let start : from ≡ from + zero = omega arith in
    ap (range_with_len from) count ∙ ap (λ (n : ℕ). range_with_len n more) start
range_parts from (suc some) more =
    let count : suc some + more ≡ suc (some + more) = omega arith in
    let start : from + 1 + some ≡ from + suc some = omega arith in
    ap (range_with_len from) count ∙ ap (λ (ns : List ℕ). from ∷ ns) (range_parts (from + 1) some more
    ∙ ap (λ (n : ℕ). range_with_len (from + 1) some ++ range_with_len n more) start)
