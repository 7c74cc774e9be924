-- The stitches of a tie: those between p, h and q are as long as stitches that tie a thread.
use Rattle.std.proofs.Common.{◌≡◌, ℕ, ℤ, pos, ◌+◌, ◌*◌, ◌/◌, ◌≤◌, ◌<◌, ◌-ℤ◌, ◌+ℤ◌, ◌≤ℤ◌, ◌<ℤ◌, unsigned_abs, int_le, nat_le, not, Bool, true, false, ◌⊎◌, inl, inr, List, [], ◌∷◌, refl, arith}
use Rattle.std.proofs.lemmas.Bool.{cases_lt}
use Rattle.std.proofs.lemmas.Nat.{mul-le}
use Rattle.design_model.specs.Lengths.{square_of}
use Rattle.design_review.specs.declared.thread_needles.ThreadNeedle.{ThreadNeedle}
use Rattle.design_review.specs.Ties.{backwards, beginning_after, count_tie_stitches, is_near_first, is_tie_stitch, is_tied}
use Rattle.sewing_edits.specs.ThreadTies.{are_tie_needles, has_own_tie, is_tie_length}
use Rattle.sewing_edits.specs.TiePoints.{halfway, halfway_point}
use Rattle.sewing_edits.proofs.Names.{nat_tests, ints, Point, first_true, same_is, second_true, if◌then◌else◌}
use Rattle.sewing_edits.proofs.TiePointLemmas.{own_square, square_back}

-- a half of a length of 0.8 mm is at least 0.28 mm, rounded either way
half_low : (a a' b b' : ℕ) → a' ≤ a + 1 → b' ≤ b + 1 → 64 ≤ (a + a') * (a + a') + (b + b') * (b + b') → 8 ≤ a * a + b * b
half_low a a' b b' across down long = by_a (cases_lt 2 a)
  where
    by_b : a ≤ 2 → (2 < b) ⊎ (b ≤ 2) → 8 ≤ a * a + b * b
    by_b few (inl more) = omega (arith, mul-le 3 3 b b (omega (arith, more)) (omega (arith, more)))
    by_b few (inr fewer) = absurd (omega (
      arith,
      long,
      mul-le (a + a') (a + a') 5 5 (omega (arith, few, across)) (omega (arith, few, across)),
      mul-le (b + b') (b + b') 5 5 (omega (arith, fewer, down)) (omega (arith, fewer, down)),
    ))

    by_a : (2 < a) ⊎ (a ≤ 2) → 8 ≤ a * a + b * b
    by_a (inl more) = omega (arith, mul-le 3 3 a a (omega (arith, more)) (omega (arith, more)))
    by_a (inr few) = by_b few (cases_lt 2 b)

-- a half of a length of 2 mm is at most 1.2 mm
half_high : (a a' b b' : ℕ) → a ≤ a' + 1 → b ≤ b' + 1 → (a + a') * (a + a') + (b + b') * (b + b') ≤ 400 → a * a + b * b ≤ 144
half_high a a' b b' across down short =
    let u : a + a' ≤ 20 = small (a + a') (omega (arith, short)) in
    let v : b + b' ≤ 20 = small (b + b') (omega (arith, short)) in
    omega (
      arith,
      short,
      u,
      v,
      mul-le (2 * a) (2 * a) (a + a' + 1) (a + a' + 1) (omega (arith, across)) (omega (arith, across)),
      mul-le (2 * b) (2 * b) (b + b' + 1) (b + b' + 1) (omega (arith, down)) (omega (arith, down)),
    )
  where
    small : (u : ℕ) → u * u ≤ 400 → u ≤ 20
    small u less = by_cases (cases_lt 20 u)
      where
        by_cases : (20 < u) ⊎ (u ≤ 20) → u ≤ 20
        by_cases (inl above) = absurd (omega (arith, less, mul-le 21 21 u u (omega (arith, above)) (omega (arith, above))))
        by_cases (inr le) = le

-- The way from a to b is halved, up to one.
pub record IsHalved (a h b : ℤ) : Type 0 where
  pub sum : unsigned_abs (h -ℤ a) + unsigned_abs (b -ℤ h) ≡ unsigned_abs (b -ℤ a)
  pub first : unsigned_abs (h -ℤ a) ≤ unsigned_abs (b -ℤ h) + 1
  pub second : unsigned_abs (b -ℤ h) ≤ unsigned_abs (h -ℤ a) + 1

halved : (a b : ℤ) → IsHalved a (halfway a b) b
halved a b = by_side (int_le a b) refl
  where
    d : ℕ
    d = unsigned_abs (b -ℤ a)

    up : (k : ℕ) → a ≤ℤ b → 2 * k ≤ d → d ≤ 2 * k + 1 → IsHalved a (a +ℤ pos k) b
    up k less low high = record {
      sum = omega (arith, ints, less, low, high);
      first = omega (arith, ints, less, low, high);
      second = omega (arith, ints, less, low, high);
    }

    down : (k : ℕ) → b <ℤ a → 2 * k ≤ d → d ≤ 2 * k + 1 → IsHalved a (b +ℤ pos k) b
    down k less low high = record {
      sum = omega (arith, ints, less, low, high);
      first = omega (arith, ints, less, low, high);
      second = omega (arith, ints, less, low, high);
    }

    by_side : (side : Bool) → int_le a b ≡ side → IsHalved a ((if side then a else b) +ℤ pos (d / 2)) b
    by_side true is = up (d / 2) (grind (arith, nat_tests, ints, is)) (omega arith) (omega arith)
    by_side false is = down (d / 2) (grind (arith, nat_tests, ints, is)) (omega arith) (omega arith)

-- What is known of the stitches of a tie between p, h and q.
pub record AreTieStitches (p h q : Point) : Type 0 where
  pub low_first : 8 ≤ square_of p h
  pub high_first : square_of p h ≤ 144
  pub low_second : 8 ≤ square_of h q
  pub high_second : square_of h q ≤ 144

-- halves of a tie are as long as stitches that tie
pub halves : (p q : Point) → is_tie_length (square_of p q) ≡ true → AreTieStitches p (halfway_point p q) q
unfolding square_of
halves p q is =
    let x = halved p.x q.x in
    let y = halved p.y q.y in
    let sum : square_of p q ≡ way p.x (halfway p.x q.x) q.x * way p.x (halfway p.x q.x) q.x
    + way p.y (halfway p.y q.y) q.y * way p.y (halfway p.y q.y) q.y = rw (x.sum, y.sum) refl in
    let low : 64 ≤ square_of p q = grind (arith, nat_tests, is) in
    let high : square_of p q ≤ 400 = grind (arith, nat_tests, is) in
    record {
      low_first = half_low _ _ _ _ x.second y.second (rw (← sum) low);
      high_first = half_high _ _ _ _ x.first y.first (rw (← sum) high);
      low_second = half_low _ _ _ _ x.first y.first (turned _ _ _ _ (rw (← sum) low));
      high_second = half_high _ _ _ _ x.second y.second (back _ _ _ _ (rw (← sum) high));
    }
  where
    way : (a h b : ℤ) → ℕ
    way a h b = unsigned_abs (h -ℤ a) + unsigned_abs (b -ℤ h)

    turned : (a a' b b' : ℕ) → 64 ≤ (a' + a) * (a' + a) + (b' + b) * (b' + b) → 64 ≤ (a + a') * (a + a') + (b + b') * (b + b')
    turned a a' b b' is = omega (arith, is)

    back : (a a' b b' : ℕ) → (a' + a) * (a' + a) + (b' + b) * (b' + b) ≤ 400 → (a + a') * (a + a') + (b + b') * (b + b') ≤ 400
    back a a' b b' is = omega (arith, is)

-- three needles after the first tie a thread
pub three_tie : (reach : ℕ) (a b c d : ThreadNeedle) (rest : List ThreadNeedle)
    → is_near_first reach a.at b ≡ true → is_near_first reach a.at c ≡ true → is_near_first reach a.at d ≡ true
    → is_tie_stitch a.at b.at ≡ true → is_tie_stitch b.at c.at ≡ true → is_tie_stitch c.at d.at ≡ true
    → is_tied reach (a ∷ b ∷ c ∷ d ∷ rest) ≡ true
three_tie reach a b c d rest near_b near_c near_d first second third =
    rw (near_b, near_c, near_d, first, second, third) (three (count_tie_stitches d.at (beginning_after reach a.at rest)))
  where
    three : (n : ℕ) → nat_le 3 (1 + (1 + (1 + n))) ≡ true
    three n = grind (arith, nat_tests)

-- What it is to be the needles of a tie.
pub record AreTie (a b c d e : ThreadNeedle) : Type 0 where
  pub sewn_b : b.float ≡ false
  pub sewn_c : c.float ≡ false
  pub sewn_d : d.float ≡ false
  pub sewn_e : e.float ≡ false
  pub ends : a.at ≡ e.at
  pub halves : b.at ≡ d.at
  pub middle : b.at ≡ halfway_point a.at c.at
  pub long : is_tie_length (square_of a.at c.at) ≡ true

pub tie_parts : (a b c d e : ThreadNeedle) → are_tie_needles a b c d e ≡ true → AreTie a b c d e
tie_parts a b c d e is =
    let floats = first_true _ _ is in
    let later = second_true _ _ floats in
    let last = second_true _ _ later in
    let points = second_true _ _ is in
    let same = first_true _ _ points in
    let middles = second_true _ _ same in
    record {
      sewn_b = not_is b.float (first_true _ _ floats);
      sewn_c = not_is c.float (first_true _ _ later);
      sewn_d = not_is d.float (first_true _ _ last);
      sewn_e = not_is e.float (second_true _ _ last);
      ends = same_is a.at e.at (first_true _ _ same);
      halves = same_is b.at d.at (first_true _ _ middles);
      middle = same_is b.at (halfway_point a.at c.at) (second_true _ _ middles);
      long = second_true _ _ points;
    }
  where
    not_is : (t : Bool) → not t ≡ true → t ≡ false
    not_is true is = cc
    not_is false is = refl

-- a needle that is sewn to, at most 2 mm from the first, is near it
near_of : (p : Point) (n : ThreadNeedle) → n.float ≡ false → square_of p n.at ≤ 400 → is_near_first 20 p n ≡ true
near_of p n sewn near = rw sewn (grind (arith, nat_tests, near))

stitch_of : (p q : Point) → 8 ≤ square_of p q → square_of p q ≤ 144 → is_tie_stitch p q ≡ true
stitch_of p q low high = grind (arith, nat_tests, low, high)

-- The stitches of a tie between its needles.
stitches_of : (a b c d e : ThreadNeedle) → AreTie a b c d e → AreTieStitches a.at b.at c.at
stitches_of a b c d e is = rw is.middle (halves a.at c.at is.long)

-- a thread that begins with a tie is tied
pub own_tied : (thread : List ThreadNeedle) → has_own_tie thread ≡ true → is_tied 20 thread ≡ true
own_tied (a ∷ b ∷ c ∷ d ∷ e ∷ rest) is =
    let tie = tie_parts a b c d e is in
    let are = stitches_of a b c d e tie in
    let high : square_of a.at c.at ≤ 400 = long_is (square_of a.at c.at) tie.long in
    three_tie 20 a b c d (e ∷ rest)
    (near_of a.at b tie.sewn_b (omega (arith, are.high_first)))
    (near_of a.at c tie.sewn_c high)
    (near_of a.at d tie.sewn_d (rw (← tie.halves) (omega (arith, are.high_first))))
    (stitch_of a.at b.at are.low_first are.high_first)
    (stitch_of b.at c.at are.low_second are.high_second)
    (rw (← tie.halves) (stitch_of c.at b.at (rw (square_back b.at c.at) are.low_second) (rw (square_back b.at c.at) are.high_second)))
  where
    long_is : (square : ℕ) → is_tie_length square ≡ true → square ≤ 400
    long_is square is = grind (arith, nat_tests, is)
own_tied (a ∷ b ∷ c ∷ d ∷ []) is = cc
own_tied (a ∷ b ∷ c ∷ []) is = cc
own_tied (a ∷ b ∷ []) is = cc
own_tied (a ∷ []) is = cc
own_tied [] is = cc

-- four needles that begin a tie are tied at their end
pub four_tied : (a b c d e : ThreadNeedle) → are_tie_needles a b c d e ≡ true → is_tied 20 (backwards (a ∷ b ∷ c ∷ d ∷ [])) ≡ true
four_tied a b c d e is =
    let tie = tie_parts a b c d e is in
    let are = stitches_of a b c d e tie in
    three_tie 20 (turned d false) (turned c d.float) (turned b c.float) (turned a b.float) []
    (near_of d.at (turned c d.float) tie.sewn_d (rw (← tie.halves) (omega (arith, are.high_second))))
    (near_of d.at (turned b c.float) tie.sewn_c (rw (← tie.halves) (rw (own_square b.at) (omega arith))))
    (near_of d.at (turned a b.float) tie.sewn_b (rw (← tie.halves) (rw (square_back a.at b.at) (omega (arith, are.high_first)))))
    (rw (← tie.halves) (stitch_of b.at c.at are.low_second are.high_second))
    (stitch_of c.at b.at (rw (square_back b.at c.at) are.low_second) (rw (square_back b.at c.at) are.high_second))
    (stitch_of b.at a.at (rw (square_back a.at b.at) are.low_first) (rw (square_back a.at b.at) are.high_first))
  where
    turned : ThreadNeedle → Bool → ThreadNeedle
    turned n float = record { at = n.at; float = float }
