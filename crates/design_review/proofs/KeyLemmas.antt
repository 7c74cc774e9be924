-- Keys of needles in one hole.
use Rattle.std.proofs.Common.{◌≡◌, ◌∙◌, ◌⊎◌, inl, inr, ℕ, ℤ, pos, negsuc, zero, suc, ◌+◌, ◌-◌, ◌*◌, ◌<◌, ◌≤◌, ◌-ℤ◌, unsigned_abs, Bool, false, nat_le, IsTrue, ap, sym, refl, arith}
use Rattle.std.proofs.lemmas.Int.{ints}
use Rattle.std.proofs.lemmas.Bool.{cases_lt, lt-leb}
use Rattle.std.proofs.lemmas.Bool.Decides.{nat_tests}
use native.Mathlib.Nat.{mul-le-mul}
use Rattle.std.specs.Prelude.{if◌then◌else◌}
use Rattle.design_model.specs.declared.point.Point.{Point}
use Rattle.design_model.specs.Lengths.{square_of}
use Rattle.design_model.specs.declared.point.TheConstants.{NEEDLE_LIMIT}
use Rattle.design_model.specs.Points.{is_point_within}
use Rattle.design_model.proofs.CallerLemmas.{within_parts}
use Rattle.design_review.specs.Holes.{are_in_one_hole}
use Rattle.design_review.specs.NeedleKeys.{key_coordinate, key_of}
use Rattle.design_review.proofs.WindowLemmas.{one_between}

-- two numbers that are so far apart
abbrev pub AreApart : ℕ → ℕ → ℕ → Type 0
AreApart a b far = (b ≡ a + far) ⊎ (a ≡ b + far)

-- the keys of coordinates are as far apart as these
pub coordinates_apart : (a b : ℤ) → unsigned_abs a ≤ 30000 → unsigned_abs b ≤ 30000
    → AreApart (key_coordinate a) (key_coordinate b) (unsigned_abs (b -ℤ a))
coordinates_apart (pos m) (pos n) x y = by_order (cases_lt n m)
  where
    by_order : (n < m) ⊎ (m ≤ n) → AreApart (key_coordinate (pos m)) (key_coordinate (pos n)) (unsigned_abs (pos n -ℤ pos m))
    by_order (inl less) = inr (omega (arith, ints, x, y, less))
    by_order (inr more) = inl (omega (arith, ints, x, y, more))
coordinates_apart (pos m) (negsuc n) x y = inr (omega (arith, ints, x, y))
coordinates_apart (negsuc m) (pos n) x y = inl (omega (arith, ints, x, y))
coordinates_apart (negsuc m) (negsuc n) x y = by_order (cases_lt m n)
  where
    by_order : (m < n) ⊎ (n ≤ m)
        → AreApart (key_coordinate (negsuc m)) (key_coordinate (negsuc n)) (unsigned_abs (negsuc n -ℤ negsuc m))
    by_order (inl less) = inr (omega (arith, ints, x, y, less))
    by_order (inr more) = inl (omega (arith, ints, x, y, more))

pub coordinate_low : (z : ℤ) → 2768 ≤ key_coordinate z
coordinate_low (pos n) = omega arith
coordinate_low (negsuc n) = omega arith

pub coordinate_high : (z : ℤ) → key_coordinate z ≤ 62768
coordinate_high (pos n) = omega arith
coordinate_high (negsuc n) = omega arith

-- how far up and down a hole reaches in the column that is so far away
abbrev pub reaches : ℕ → ℕ → Bool
reaches zero down = nat_le down 2
reaches (suc zero) down = nat_le down 1
reaches (suc (suc zero)) down = nat_le down 0
reaches (suc (suc (suc across))) down = false

far_square : (n : ℕ) → 9 ≤ suc (suc (suc n)) * suc (suc (suc n))
far_square n =
    let three : 3 ≤ suc (suc (suc n)) = omega arith in
    let step : 3 * 3 ≤ suc (suc (suc n)) * suc (suc (suc n)) = mul-le-mul three three in
    omega (arith, step)

-- a hole reaches 2 tenths
pub reached : (across down : ℕ) → nat_le (across * across + down * down) 4 ≡ reaches across down
reached zero zero = refl
reached zero (suc zero) = refl
reached zero (suc (suc zero)) = refl
reached zero (suc (suc (suc n))) =
    lt-leb (0 * 0 + suc (suc (suc n)) * suc (suc (suc n))) 4 (omega (arith, far_square n))
    ∙ sym (lt-leb (suc (suc (suc n))) 2 (omega arith))
reached (suc zero) zero = refl
reached (suc zero) (suc zero) = refl
reached (suc zero) (suc (suc zero)) = refl
reached (suc zero) (suc (suc (suc n))) =
    lt-leb (1 * 1 + suc (suc (suc n)) * suc (suc (suc n))) 4 (omega (arith, far_square n))
    ∙ sym (lt-leb (suc (suc (suc n))) 1 (omega arith))
reached (suc (suc zero)) zero = refl
reached (suc (suc zero)) (suc zero) = refl
reached (suc (suc zero)) (suc (suc zero)) = refl
reached (suc (suc zero)) (suc (suc (suc n))) =
    lt-leb (2 * 2 + suc (suc (suc n)) * suc (suc (suc n))) 4 (omega (arith, far_square n))
    ∙ sym (lt-leb (suc (suc (suc n))) 0 (omega arith))
reached (suc (suc (suc m))) down =
    let far : 9 ≤ suc (suc (suc m)) * suc (suc (suc m)) = far_square m in
    lt-leb (suc (suc (suc m)) * suc (suc (suc m)) + down * down) 4 (omega (arith, far))

-- a key that isn't in a window
none_low : (least greatest key : ℕ) → key < least → one_between least greatest key ≡ 0
none_low least greatest key low = grind (arith, nat_tests)

none_high : (least greatest key : ℕ) → greatest < key → one_between least greatest key ≡ 0
none_high least greatest key high = grind (arith, nat_tests)

-- a key in the column of a window
one_near : (middle reach least greatest key far : ℕ) → least + reach ≡ middle → middle + reach ≡ greatest → AreApart middle key far
    → one_between least greatest key ≡ (if nat_le far reach then 1 else 0)
one_near middle reach least greatest key far low high (inl is) = grind (arith, nat_tests)
one_near middle reach least greatest key far low high (inr is) = grind (arith, nat_tests)

-- the windows of the five columns
abbrev pub in_windows : ℕ → ℕ → ℕ
in_windows key other = one_between (key - 131072) (key - 131072) other
    + (one_between (key - 65537) (key - 65535) other
    + (one_between (key - 2) (key + 2) other
    + (one_between (key + 65535) (key + 65537) other
    + one_between (key + 131072) (key + 131072) other)))

-- rows in the same column, and in columns so far away
moved : (base b d down move : ℕ) → AreApart b d down → AreApart (base + move + b) (base + move + d) down
moved base b d down move (inl is) = inl (omega (arith, is))
moved base b d down move (inr is) = inr (omega (arith, is))

-- a key is in one of the windows of another exactly where the hole reaches it
pub windows_reach : (a b c d across down : ℕ) → 2768 ≤ a → 2768 ≤ b → b ≤ 62768 → 2768 ≤ d → d ≤ 62768
    → AreApart a c across → AreApart b d down
    → in_windows (a * 65536 + b) (c * 65536 + d) ≡ (if reaches across down then 1 else 0)
windows_reach a b c d zero down left top bottom low high column row =
    let same : c ≡ a = by_side column in
    let is : AreApart (a * 65536 + b) (c * 65536 + d) down = by_row row same in
    omega (
      arith,
      none_high (a * 65536 + b - 131072) (a * 65536 + b - 131072) (c * 65536 + d) (omega (arith, same, left, top, bottom, low, high)),
      none_high (a * 65536 + b - 65537) (a * 65536 + b - 65535) (c * 65536 + d) (omega (arith, same, left, top, bottom, low, high)),
      one_near (a * 65536 + b) 2 (a * 65536 + b - 2) (a * 65536 + b + 2) (c * 65536 + d) down (omega (arith, left)) (omega arith) is,
      none_low (a * 65536 + b + 65535) (a * 65536 + b + 65537) (c * 65536 + d) (omega (arith, same, left, top, bottom, low, high)),
      none_low (a * 65536 + b + 131072) (a * 65536 + b + 131072) (c * 65536 + d) (omega (arith, same, left, top, bottom, low, high)),
    )
  where
    by_side : AreApart a c 0 → c ≡ a
    by_side (inl is) = omega (arith, is)
    by_side (inr is) = omega (arith, is)

    by_row : AreApart b d down → c ≡ a → AreApart (a * 65536 + b) (c * 65536 + d) down
    by_row (inl is) same = inl (omega (arith, is, same))
    by_row (inr is) same = inr (omega (arith, is, same))
windows_reach a b c d (suc zero) down left top bottom low high (inl column) row =
    let is : AreApart (a * 65536 + b + 65536) (c * 65536 + d) down = by_row row in
    omega (
      arith,
      none_high (a * 65536 + b - 131072) (a * 65536 + b - 131072) (c * 65536 + d) (omega (arith, column, left, top, bottom, low, high)),
      none_high (a * 65536 + b - 65537) (a * 65536 + b - 65535) (c * 65536 + d) (omega (arith, column, left, top, bottom, low, high)),
      none_high (a * 65536 + b - 2) (a * 65536 + b + 2) (c * 65536 + d) (omega (arith, column, left, top, bottom, low, high)),
      one_near (a * 65536 + b + 65536) 1 (a * 65536 + b + 65535) (a * 65536 + b + 65537)
          (c * 65536 + d) down (omega arith) (omega arith) is,
      none_low (a * 65536 + b + 131072) (a * 65536 + b + 131072) (c * 65536 + d) (omega (arith, column, left, top, bottom, low, high)),
    )
  where
    by_row : AreApart b d down → AreApart (a * 65536 + b + 65536) (c * 65536 + d) down
    by_row (inl is) = inl (omega (arith, is, column))
    by_row (inr is) = inr (omega (arith, is, column))
windows_reach a b c d (suc zero) down left top bottom low high (inr column) row =
    let is : AreApart (a * 65536 + b - 65536) (c * 65536 + d) down = by_row row in
    omega (
      arith,
      none_high (a * 65536 + b - 131072) (a * 65536 + b - 131072) (c * 65536 + d) (omega (arith, column, left, top, bottom, low, high)),
      one_near (a * 65536 + b - 65536) 1 (a * 65536 + b - 65537) (a * 65536 + b - 65535) (c * 65536 + d) down (omega (arith, left))
          (omega (arith, left)) is,
      none_low (a * 65536 + b - 2) (a * 65536 + b + 2) (c * 65536 + d) (omega (arith, column, left, top, bottom, low, high)),
      none_low (a * 65536 + b + 65535) (a * 65536 + b + 65537) (c * 65536 + d) (omega (arith, column, left, top, bottom, low, high)),
      none_low (a * 65536 + b + 131072) (a * 65536 + b + 131072) (c * 65536 + d) (omega (arith, column, left, top, bottom, low, high)),
    )
  where
    by_row : AreApart b d down → AreApart (a * 65536 + b - 65536) (c * 65536 + d) down
    by_row (inl is) = inl (omega (arith, is, column, left))
    by_row (inr is) = inr (omega (arith, is, column, left))
windows_reach a b c d (suc (suc zero)) down left top bottom low high (inl column) row =
    let is : AreApart (a * 65536 + b + 131072) (c * 65536 + d) down = by_row row in
    omega (
      arith,
      none_high (a * 65536 + b - 131072) (a * 65536 + b - 131072) (c * 65536 + d) (omega (arith, column, left, top, bottom, low, high)),
      none_high (a * 65536 + b - 65537) (a * 65536 + b - 65535) (c * 65536 + d) (omega (arith, column, left, top, bottom, low, high)),
      none_high (a * 65536 + b - 2) (a * 65536 + b + 2) (c * 65536 + d) (omega (arith, column, left, top, bottom, low, high)),
      none_high (a * 65536 + b + 65535) (a * 65536 + b + 65537) (c * 65536 + d) (omega (arith, column, left, top, bottom, low, high)),
      one_near (a * 65536 + b + 131072) 0 (a * 65536 + b + 131072) (a * 65536 + b + 131072)
          (c * 65536 + d) down (omega arith) (omega arith) is,
    )
  where
    by_row : AreApart b d down → AreApart (a * 65536 + b + 131072) (c * 65536 + d) down
    by_row (inl is) = inl (omega (arith, is, column))
    by_row (inr is) = inr (omega (arith, is, column))
windows_reach a b c d (suc (suc zero)) down left top bottom low high (inr column) row =
    let is : AreApart (a * 65536 + b - 131072) (c * 65536 + d) down = by_row row in
    omega (
      arith,
      one_near (a * 65536 + b - 131072) 0 (a * 65536 + b - 131072) (a * 65536 + b - 131072)
          (c * 65536 + d) down (omega arith) (omega arith) is,
      none_low (a * 65536 + b - 65537) (a * 65536 + b - 65535) (c * 65536 + d) (omega (arith, column, left, top, bottom, low, high)),
      none_low (a * 65536 + b - 2) (a * 65536 + b + 2) (c * 65536 + d) (omega (arith, column, left, top, bottom, low, high)),
      none_low (a * 65536 + b + 65535) (a * 65536 + b + 65537) (c * 65536 + d) (omega (arith, column, left, top, bottom, low, high)),
      none_low (a * 65536 + b + 131072) (a * 65536 + b + 131072) (c * 65536 + d) (omega (arith, column, left, top, bottom, low, high)),
    )
  where
    by_row : AreApart b d down → AreApart (a * 65536 + b - 131072) (c * 65536 + d) down
    by_row (inl is) = inl (omega (arith, is, column, left))
    by_row (inr is) = inr (omega (arith, is, column, left))
windows_reach a b c d (suc (suc (suc across))) down left top bottom low high (inl column) row =
    omega (
      arith,
      none_high (a * 65536 + b - 131072) (a * 65536 + b - 131072) (c * 65536 + d) (omega (arith, column, left, top, bottom, low, high)),
      none_high (a * 65536 + b - 65537) (a * 65536 + b - 65535) (c * 65536 + d) (omega (arith, column, left, top, bottom, low, high)),
      none_high (a * 65536 + b - 2) (a * 65536 + b + 2) (c * 65536 + d) (omega (arith, column, left, top, bottom, low, high)),
      none_high (a * 65536 + b + 65535) (a * 65536 + b + 65537) (c * 65536 + d) (omega (arith, column, left, top, bottom, low, high)),
      none_high (a * 65536 + b + 131072) (a * 65536 + b + 131072) (c * 65536 + d) (omega (arith, column, left, top, bottom, low, high)),
    )
windows_reach a b c d (suc (suc (suc across))) down left top bottom low high (inr column) row =
    omega (
      arith,
      none_low (a * 65536 + b - 131072) (a * 65536 + b - 131072) (c * 65536 + d) (omega (arith, column, left, top, bottom, low, high)),
      none_low (a * 65536 + b - 65537) (a * 65536 + b - 65535) (c * 65536 + d) (omega (arith, column, left, top, bottom, low, high)),
      none_low (a * 65536 + b - 2) (a * 65536 + b + 2) (c * 65536 + d) (omega (arith, column, left, top, bottom, low, high)),
      none_low (a * 65536 + b + 65535) (a * 65536 + b + 65537) (c * 65536 + d) (omega (arith, column, left, top, bottom, low, high)),
      none_low (a * 65536 + b + 131072) (a * 65536 + b + 131072) (c * 65536 + d) (omega (arith, column, left, top, bottom, low, high)),
    )

-- two needles are in one hole exactly where the key of one is in the windows of the other's
pub in_one_hole : (p q : Point) → IsTrue (is_point_within NEEDLE_LIMIT p) → IsTrue (is_point_within NEEDLE_LIMIT q)
    → in_windows (key_of p) (key_of q) ≡ (if are_in_one_hole p q then 1 else 0)
unfolding square_of
in_one_hole p q here there =
    let a = within_parts NEEDLE_LIMIT p here in
    let b = within_parts NEEDLE_LIMIT q there in
    windows_reach (key_coordinate p.x) (key_coordinate p.y) (key_coordinate q.x) (key_coordinate q.y)
    (unsigned_abs (q.x -ℤ p.x)) (unsigned_abs (q.y -ℤ p.y)) (coordinate_low p.x) (coordinate_low p.y) (coordinate_high p.y)
    (coordinate_low q.y) (coordinate_high q.y) (coordinates_apart p.x q.x a.0 b.0) (coordinates_apart p.y q.y a.1 b.1)
    ∙ ap {B = ℕ} (λ (t : Bool). if t then 1 else 0) (sym (reached (unsigned_abs (q.x -ℤ p.x)) (unsigned_abs (q.y -ℤ p.y))))
