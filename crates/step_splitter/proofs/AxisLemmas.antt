-- The numbers on the way from one number to another.
use Rattle.std.proofs.Common.{◌≡◌, ◌≢◌, ℕ, ℤ, pos, negsuc, ◌+◌, ◌-◌, ◌*◌, ◌/◌, ◌≤◌, ◌+ℤ◌, ◌-ℤ◌, ◌*ℤ◌, ◌<ℤ◌, ◌≤ℤ◌, unsigned_abs, zero, suc, refl, ap, sym, ◌∙◌, add-one, add-zero, arith}
use Rattle.std.proofs.Math.IntN.{neg_ℤ}
use Rattle.step_splitter.proofs.Names.{nat_tests, ints, div-eq_of_lt, floor_quotient, by_lt_z, zero-div, coordinate_on_segment}
use Rattle.step_splitter.proofs.QuotientLemmas.{div-more, part_last, part_rises, part_rises_little, part_within, next_part, div-mono}

-- a product with a number that isn't negative, over n
pub floor_up : (i n : ℕ) (z : ℤ) → pos 0 ≤ℤ z → floor_quotient (pos i *ℤ z) n ≡ pos (i * unsigned_abs z / n)
floor_up i n (pos d) low = refl
floor_up i n (negsuc d) low = absurd (omega (arith, ints))

-- the quotient of a negated number is the negated quotient rounded up
pub floor_negated : (m n : ℕ) → 1 ≤ n → floor_quotient (neg_ℤ (pos m)) n ≡ neg_ℤ (pos ((m + (n - 1)) / n))
floor_negated zero n some = grind (arith, nat_tests, div-eq_of_lt {n = 0}, div-eq_of_lt {n = 0 + (n - 1)})
floor_negated (suc m) n some = grind (arith, nat_tests, div-more m 1 n some, add-one (m / n))

-- a product with a negative number, over n
pub floor_down : (i n : ℕ) (z : ℤ) → 1 ≤ n → z <ℤ pos 0 → floor_quotient (pos i *ℤ z) n ≡ neg_ℤ (pos ((i * unsigned_abs z + (n - 1)) / n))
floor_down i n (pos d) some below = absurd (omega (arith, ints))
floor_down i n (negsuc d) some below = floor_negated (i * suc d) n some

-- up the axis, the parts are added
pub coordinate_on_segment-up : (from to : ℤ) (n i : ℕ) → from ≤ℤ to
    → coordinate_on_segment from to n i ≡ from +ℤ pos (i * unsigned_abs (to -ℤ from) / n)
coordinate_on_segment-up from to n i up = grind (arith, nat_tests, floor_up i n (to -ℤ from) (omega (arith, ints)))

-- down the axis, the parts are taken off, rounded up
pub coordinate_on_segment-down : (from to : ℤ) (n i : ℕ) → 1 ≤ n → to <ℤ from
    → coordinate_on_segment from to n i ≡ from -ℤ pos ((i * unsigned_abs (to -ℤ from) + (n - 1)) / n)
coordinate_on_segment-down from to n i some down = grind (arith, nat_tests, floor_down i n (to -ℤ from) some (omega (arith, ints)))

-- the parts rounded down are those with nothing added
whole : (m n : ℕ) → m / n ≡ (m + 0) / n
whole m n = ap (λ x. x / n) (sym (add-zero m))

whole_rises : (i d n : ℕ) → 1 ≤ n → i * d / n ≤ (i + 1) * d / n
whole_rises i d n some = rw (whole (i * d) n, whole ((i + 1) * d) n) (part_rises i d 0 n some)

whole_rises_little : (i d n step : ℕ) → 1 ≤ n → d ≤ n * step → (i + 1) * d / n ≤ i * d / n + step
whole_rises_little i d n step some covers =
    rw (whole (i * d) n, whole ((i + 1) * d) n) (part_rises_little i d 0 n step some covers)

whole_moves : (i d n : ℕ) → 1 ≤ n → n ≤ d → i * d / n + 1 ≤ (i + 1) * d / n
whole_moves i d n some far = rw (whole (i * d) n, whole ((i + 1) * d) n) (grind (arith, nat_tests, next_part, div-mono, div-more))

whole_within : (i d n : ℕ) → 1 ≤ n → i ≤ n → i * d / n ≤ d
whole_within i d n some there = rw (whole (i * d) n) (part_within i d 0 n some there)

whole_last : (d n : ℕ) → 1 ≤ n → n * d / n ≡ d
whole_last d n some = rw (whole (n * d) n) (part_last d 0 n some)

-- two numbers above or below the same one lie as near as what is added or taken off
between_up : (from : ℤ) (a b step : ℕ) → a ≤ b → b ≤ a + step → unsigned_abs ((from +ℤ pos b) -ℤ (from +ℤ pos a)) ≤ step
between_up from a b step low high = grind (arith, ints)

between_down : (from : ℤ) (a b step : ℕ) → a ≤ b → b ≤ a + step → unsigned_abs ((from -ℤ pos b) -ℤ (from -ℤ pos a)) ≤ step
between_down from a b step low high = grind (arith, ints)

apart_up : (from : ℤ) (a b : ℕ) → a + 1 ≤ b → (from +ℤ pos a) ≢ (from +ℤ pos b)
apart_up from a b more same = omega (arith, ints)

apart_down : (from : ℤ) (a b : ℕ) → a + 1 ≤ b → (from -ℤ pos a) ≢ (from -ℤ pos b)
apart_down from a b more same = omega (arith, ints)

-- none of the parts is nothing
none_up : (d n : ℕ) → 0 * d / n ≡ 0
none_up d n = let none : 0 * d ≡ 0 = omega arith in ap (λ x. x / n) none ∙ zero-div n

none_down : (d n : ℕ) → 1 ≤ n → (0 * d + (n - 1)) / n ≡ 0
none_down d n some = div-eq_of_lt {n = 0 * d + (n - 1)} {m = n} (omega arith)

-- numbers between two others stay within the limit of both
within_up : (from to : ℤ) (a limit : ℕ) → from ≤ℤ to → unsigned_abs from ≤ limit
    → unsigned_abs to ≤ limit → a ≤ unsigned_abs (to -ℤ from) → unsigned_abs (from +ℤ pos a) ≤ limit
within_up from to a limit up from_in to_in near = grind (arith, ints)

within_down : (from to : ℤ) (a limit : ℕ) → to <ℤ from → unsigned_abs from ≤ limit
    → unsigned_abs to ≤ limit → a ≤ unsigned_abs (to -ℤ from) → unsigned_abs (from -ℤ pos a) ≤ limit
within_down from to a limit down from_in to_in near = grind (arith, ints)

-- one part of the way is at most the step
pub axis_close : (from to : ℤ) (n i step : ℕ) → 1 ≤ n → unsigned_abs (to -ℤ from) ≤ n * step
    → unsigned_abs (coordinate_on_segment from to n (i + 1) -ℤ coordinate_on_segment from to n i) ≤ step
axis_close from to n i step some covers =
    by_lt_z to from
    (λ down. rw (coordinate_on_segment-down from to n (i + 1) some down, coordinate_on_segment-down from to n i some down)
    (between_down from _ _ step (part_rises i _ (n - 1) n some)
    (part_rises_little i _ (n - 1) n step some covers)))
    (λ up. rw (coordinate_on_segment-up from to n (i + 1) up, coordinate_on_segment-up from to n i up)
    (between_up from _ _ step (whole_rises i _ n some) (whole_rises_little i _ n step some covers)))

-- no part of the way is empty where there are no more parts than the distance
pub axis_moves : (from to : ℤ) (n i : ℕ) → 1 ≤ n → n ≤ unsigned_abs (to -ℤ from)
    → coordinate_on_segment from to n i ≢ coordinate_on_segment from to n (i + 1)
axis_moves from to n i some far =
    by_lt_z to from
    (λ down. rw (coordinate_on_segment-down from to n (i + 1) some down, coordinate_on_segment-down from to n i some down)
    (apart_down from _ _ (grind (arith, nat_tests, next_part, div-mono, div-more))))
    (λ up. rw (coordinate_on_segment-up from to n (i + 1) up, coordinate_on_segment-up from to n i up)
    (apart_up from _ _ (whole_moves i _ n some far)))

-- the way begins at the one number and ends at the other
pub axis_first : (from to : ℤ) (n : ℕ) → 1 ≤ n → coordinate_on_segment from to n 0 ≡ from
axis_first from to n some = grind (arith, nat_tests, by_lt_z, coordinate_on_segment-down, none_down, coordinate_on_segment-up, none_up)

pub axis_last : (from to : ℤ) (n : ℕ) → 1 ≤ n → coordinate_on_segment from to n n ≡ to
axis_last from to n some = grind (arith, nat_tests, by_lt_z, coordinate_on_segment-down, part_last, coordinate_on_segment-up, whole_last)

-- and stays within the limit of both
pub axis_within : (from to : ℤ) (n i limit : ℕ) → 1 ≤ n → i ≤ n → unsigned_abs from ≤ limit
    → unsigned_abs to ≤ limit → unsigned_abs (coordinate_on_segment from to n i) ≤ limit
axis_within from to n i limit some there from_in to_in =
    grind (
      arith,
      nat_tests,
      by_lt_z,
      coordinate_on_segment-down,
      within_down,
      part_within,
      coordinate_on_segment-up,
      within_up,
      whole_within,
    )
