-- The parts of a move on one axis: how far each goes, and where each ends.
use Rattle.std.proofs.Common.{◌≡◌, ℕ, zero, suc, ◌+◌, ◌-◌, ◌*◌, ◌/◌, ◌<◌, ◌≤◌, ℤ, pos, negsuc, neg_ℤ, ◌+ℤ◌, ◌-ℤ◌, ◌*ℤ◌, unsigned_abs, ap, sym, ◌∙◌, arith}
use Rattle.std.proofs.lemmas.Nat.{div_below, le-div}
use Rattle.record_formats.proofs.Names.{ints, int_div_euclid, nat_tests, zero-div}

-- where `count` of the n parts end
abbrev pub axis_part : ℤ → ℕ → ℕ → ℤ
axis_part z n count = int_div_euclid (pos count *ℤ z) (pos n)

-- the same of a size, rounded down and rounded up
abbrev floor : ℕ → ℕ → ℕ → ℕ
floor a n count = count * a / n

abbrev ceiling : ℕ → ℕ → ℕ → ℕ
ceiling a n count = (count * a + (n - 1)) / n

quotient_step : (v w n l : ℕ) → 0 < n → v ≤ w + n * l → v / n ≤ w / n + l
quotient_step v w n l some near =
    let below : v < (w / n + l + 1) * n = omega (arith, near) in
    omega (arith, div_below v n (w / n + l + 1) some below)

floor_most : (a n count : ℕ) → 0 < n → count ≤ n → floor a n count ≤ a
floor_most a n count h1 h2 = grind (arith, nat_tests, ints)

ceiling_most : (a n count : ℕ) → 0 < n → count ≤ n → ceiling a n count ≤ a
ceiling_most a n count h1 h2 = grind (arith, nat_tests, ints)

-- one part more
floor_step : (a n count l : ℕ) → 0 < n → a ≤ n * l
    → (floor a n count ≤ floor a n (count + 1)) × (floor a n (count + 1) ≤ floor a n count + l)
floor_step a n count l some near = (
  grind (arith, nat_tests),
  quotient_step ((count + 1) * a) (count * a) n l some (omega (arith, near)),
)

ceiling_step : (a n count l : ℕ) → 0 < n → a ≤ n * l
    → (ceiling a n count ≤ ceiling a n (count + 1)) × (ceiling a n (count + 1) ≤ ceiling a n count + l)
ceiling_step a n count l some near = (
  grind (arith, nat_tests),
  quotient_step ((count + 1) * a + (n - 1)) (count * a + (n - 1)) n l some (omega (arith, near)),
)

-- a quotient of a number below 0 is that of its size, rounded up
div_opposite : (v n : ℕ) → 0 < n → int_div_euclid (neg_ℤ (pos v)) (pos n) ≡ neg_ℤ (pos ((v + (n - 1)) / n))
div_opposite zero n some =
    let low : (0 + (n - 1)) / n ≡ 0 = omega (arith, div_below (0 + (n - 1)) n 1 some (omega (arith, some))) in
    ap pos (zero-div n) ∙ sym (ap (λ c. neg_ℤ (pos c)) low)
div_opposite (suc w) n some =
    let low : (suc w + (n - 1)) / n ≡ suc (w / n) = one_more w n some in
    sym (ap (λ c. neg_ℤ (pos c)) low)
  where
    one_more : (w n : ℕ) → 0 < n → (suc w + (n - 1)) / n ≡ suc (w / n)
    one_more w n some =
        let low = le-div (w / n + 1) (suc w + (n - 1)) n some (omega (arith, some)) in
        omega (arith, low, div_below (suc w + (n - 1)) n (w / n + 2) some (omega (arith, some)))

part_left : (a n count : ℕ) → 0 < n → axis_part (negsuc a) n count ≡ neg_ℤ (pos (ceiling (suc a) n count))
part_left a n count some = div_opposite (count * suc a) n some

-- all of the parts make up the whole
pub axis_all : (z : ℤ) (n : ℕ) → 0 < n → axis_part z n n ≡ z
axis_all z n h1 = grind (arith, nat_tests, ints)

-- none of them make up nothing
pub axis_none : (z : ℤ) (n : ℕ) → 0 < n → axis_part z n 0 ≡ pos 0
axis_none z n h1 = grind (arith, nat_tests, ints)

-- one part is at most l, where n times l are enough
pub axis_step : (z : ℤ) (n count l : ℕ) → 0 < n → unsigned_abs z ≤ n * l
    → unsigned_abs (axis_part z n (count + 1) -ℤ axis_part z n count) ≤ l
axis_step (pos a) n count l some near = grind (arith, nat_tests, ints, (floor_step a n count l some near))
axis_step (negsuc a) n count l some near =
    grind (arith, nat_tests, ints, (part_left a n count some), (part_left a n (count + 1) some), ceiling_step (suc a) n count l some near)

-- the place after some parts lies between those before and after the whole
pub axis_between : (x z : ℤ) (n count l : ℕ) → 0 < n → count ≤ n → unsigned_abs x ≤ l → unsigned_abs (x +ℤ z) ≤ l
    → unsigned_abs (x +ℤ axis_part z n count) ≤ l
axis_between x (pos a) n count l some less here there = grind (arith, nat_tests, floor_most)
axis_between x (negsuc a) n count l some less here there = grind (arith, nat_tests, part_left, ceiling_most)

-- the end of some parts is no farther than the end of the whole
pub axis_small : (z : ℤ) (n count : ℕ) → 0 < n → count ≤ n → unsigned_abs (axis_part z n count) ≤ unsigned_abs z
axis_small (pos a) n count some less = floor_most a n count some less
axis_small (negsuc a) n count some less = grind (arith, nat_tests, part_left, ceiling_most)
