-- Keys in order: how many are below a bound, and between two.
use Rattle.std.proofs.Common.{◌≡◌, ℕ, zero, suc, ◌+◌, ◌-◌, ◌<◌, ◌≤◌, Bool, true, nat_lt, List, [], ◌∷◌, length, get_or, ap, refl, arith}
use Rattle.std.proofs.lemmas.Bool.Decides.{nat_tests}
use Rattle.std.proofs.lemmas.Bool.{le-ltb, lt-ltb}
use Rattle.std.proofs.lemmas.List.Sums.{count_by-le-length, sum_by-cons}
use Rattle.std.specs.List.Sorted.{IsNonDecreasing}
use Rattle.std.specs.Prelude.{if◌then◌else◌}
use Rattle.design_review.specs.declared.key_windows.Columns.{Columns}
use Rattle.design_review.specs.declared.key_windows.Window.{Window}
use Rattle.design_review.specs.KeyWindows.{AreColumnsAt, AreColumnsBefore, IsWindowAt, IsWindowBefore}
use Rattle.design_review.specs.NeedleKeys.{count_below, count_between, is_between}

abbrev one_below : ℕ → ℕ → ℕ
one_below bound key = if nat_lt key bound then 1 else 0

abbrev pub one_between : (least greatest : ℕ) → ℕ → ℕ
one_between least greatest key = if is_between least greatest key then 1 else 0

below_cons : (x : ℕ) (xs : List ℕ) (bound : ℕ) → count_below (x ∷ xs) bound ≡ one_below bound x + count_below xs bound
below_cons x xs bound = sum_by-cons (one_below bound) x xs

pub between_cons : (x : ℕ) (xs : List ℕ) (least greatest : ℕ)
    → count_between (x ∷ xs) least greatest ≡ one_between least greatest x + count_between xs least greatest
between_cons x xs least greatest = sum_by-cons (one_between least greatest) x xs

-- a greater bound has no fewer keys below it
one_more : (low high x : ℕ) → low ≤ high → one_below low x ≤ one_below high x
one_more low high x less = grind (arith, nat_tests)

pub more_below : (xs : List ℕ) (low high : ℕ) → low ≤ high → count_below xs low ≤ count_below xs high
more_below [] low high less = omega arith
more_below (x ∷ rest) low high less =
    omega (arith, below_cons x rest low, below_cons x rest high, one_more low high x less, more_below rest low high less)

-- the keys up to the greatest are those below the least, and those between
one_split : (least greatest x : ℕ) → least ≤ greatest + 1
    → one_below (greatest + 1) x ≡ one_below least x + one_between least greatest x
one_split least greatest x less = grind (arith, nat_tests)

pub below_and_between : (xs : List ℕ) (least greatest : ℕ) → least ≤ greatest + 1
    → count_below xs (greatest + 1) ≡ count_below xs least + count_between xs least greatest
below_and_between [] least greatest less = refl
below_and_between (x ∷ rest) least greatest less =
    omega (
      arith,
      below_cons x rest (greatest + 1),
      below_cons x rest least,
      between_cons x rest least greatest,
      one_split least greatest x less,
      below_and_between rest least greatest less,
    )

pub below_most : (xs : List ℕ) (bound : ℕ) → count_below xs bound ≤ length xs
below_most xs bound = count_by-le-length (λ key. nat_lt key bound) xs

-- a window has the keys between its two
pub window_size : (window : Window) (size : ℕ) → size ≡ window.end - window.start → (keys : List ℕ) (least greatest : ℕ)
    → least ≤ greatest + 1 → IsWindowAt keys least greatest window → size ≡ count_between keys least greatest
window_size window size is keys least greatest less at =
    omega (arith, is, at.start, at.end, below_and_between keys least greatest less)

-- keys that rise still rise after the first
tail_rises : (x : ℕ) (xs : List ℕ) → IsNonDecreasing (x ∷ xs) → IsNonDecreasing xs
tail_rises x xs rise i j d le inside = rise (suc i) (suc j) d (omega (arith, le)) (omega (arith, inside))

-- a key below the bound has no fewer keys before it than are below
pub passed_below : (xs : List ℕ) (i bound : ℕ) → IsNonDecreasing xs → i < length xs → get_or xs i 0 < bound → i + 1 ≤ count_below xs bound
passed_below [] i bound rise inside less = absurd (omega (arith, inside))
passed_below (x ∷ rest) zero bound rise inside less =
    omega (arith, below_cons x rest bound, ap {B = ℕ} (λ (t : Bool). if t then 1 else 0) (lt-ltb x bound less))
passed_below (x ∷ rest) (suc i) bound rise inside less =
    let within : i < length rest = omega (arith, inside) in
    let first : x ≤ get_or rest i 0 = rise 0 (suc i) 0 (omega arith) (omega (arith, within)) in
    let low : nat_lt x bound ≡ true = lt-ltb x bound (omega (arith, first, less)) in
    omega (
      arith,
      below_cons x rest bound,
      ap {B = ℕ} (λ (t : Bool). if t then 1 else 0) low,
      passed_below rest i bound (tail_rises x rest rise) within less,
    )

-- from a key that isn't below the bound, none is
pub none_after : (xs : List ℕ) (i bound : ℕ) → IsNonDecreasing xs → i < length xs → bound ≤ get_or xs i 0 → count_below xs bound ≤ i
none_after [] i bound rise inside more = omega arith
none_after (x ∷ []) zero bound rise inside more =
    omega (arith, below_cons x [] bound, ap {B = ℕ} (λ (t : Bool). if t then 1 else 0) (le-ltb x bound more))
none_after (x ∷ y ∷ rest) zero bound rise inside more =
    let first : x ≤ y = rise 0 1 0 (omega arith) (omega arith) in
    omega (
      arith,
      below_cons x (y ∷ rest) bound,
      ap {B = ℕ} (λ (t : Bool). if t then 1 else 0) (le-ltb x bound more),
      none_after (y ∷ rest) 0 bound (tail_rises x (y ∷ rest) rise) (omega arith) (omega (arith, first, more)),
    )
none_after (x ∷ rest) (suc i) bound rise inside more =
    let most : one_below bound x ≤ 1 = grind (arith, nat_tests) in
    omega (arith, below_cons x rest bound, most, none_after rest i bound (tail_rises x rest rise) (omega (arith, inside)) more)

-- windows at a key aren't beyond a later key's
window_before : (keys : List ℕ) (least least2 greatest greatest2 : ℕ) (window : Window) → least ≤ least2 → greatest ≤ greatest2
    → IsWindowAt keys least greatest window → IsWindowBefore keys least2 greatest2 window
window_before keys least least2 greatest greatest2 window low high at = record {
  start = omega (arith, at.start, more_below keys least least2 low);
  end = omega (arith, at.end, more_below keys (greatest + 1) (greatest2 + 1) (omega (arith, high)));
}

pub columns_before : (keys : List ℕ) (key later : ℕ) (columns : Columns) → key ≤ later → AreColumnsAt keys key columns
    → AreColumnsBefore keys later columns
columns_before keys key later columns less at = record {
  far_left = window_before keys _ _ _ _ columns.far_left (omega (arith, less)) (omega (arith, less)) at.far_left;
  left = window_before keys _ _ _ _ columns.left (omega (arith, less)) (omega (arith, less)) at.left;
  middle = window_before keys _ _ _ _ columns.middle (omega (arith, less)) (omega (arith, less)) at.middle;
  right = window_before keys _ _ _ _ columns.right (omega (arith, less)) (omega (arith, less)) at.right;
  far_right = window_before keys _ _ _ _ columns.far_right (omega (arith, less)) (omega (arith, less)) at.far_right;
}
