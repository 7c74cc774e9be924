-- Lemmas that this crate and those above cite.
use Rattle.std.proofs.Common.{All, Bool, Contains, List, None, Some, [], ap, arith, bytes_eq, cond, drop, false, filter, get_or, length, map, nat_lt, neg_ℤ, pos, refl, subst, suc, sym, take, true, unsigned_abs, zero, ℕ, ℤ, ◌&&◌, ◌*◌, ◌++◌, ◌+ℤ◌, ◌+◌, ◌-ℤ◌, ◌-◌, ◌/◌, ◌<◌, ◌==◌, ◌||◌, ◌∷◌, ◌≡◌, ◌≢◌, ◌≤◌, ◌⊎◌}
use Rattle.std.proofs.Math.Seq.{take-append_seam}
use Rattle.std.proofs.lemmas.Bool.{and_parts, or_left, or_right}
use Rattle.std.proofs.lemmas.Bool.Decides.{nat_tests}
use Rattle.std.proofs.lemmas.Fmt.{decimal_nonempty, digits_decimal, digits_value-decimal}
use Rattle.std.proofs.lemmas.Int.{ints}
use Rattle.std.proofs.lemmas.List.Elements.{All-append, All-cons, All-head, All-nil, All-tail, Contains-append_left, Contains-append_right}
use Rattle.std.proofs.lemmas.List.FromFn.{get_or-range_with_len, length-range_with_len}
use Rattle.std.proofs.lemmas.Slice.Eq.{bytes_eq-Decides}
use Rattle.std.proofs.lemmas.Str.Parse.{IsNumeralModel, numerals_by_value, tells_all_ascii_digits}
use Rattle.std.specs.Char.{is_ascii_digit}
use Rattle.std.specs.Fmt.{decimal, signed_decimal}
use Rattle.std.specs.List.{AllPairs, concat, range_with_len}
use Rattle.std.specs.List.Sorted.{IsStrictlyIncreasing}
use Rattle.std.specs.Str.{all_ascii_digits}
use Rattle.std.specs.Str.Parse.{digits_value}
use Rattle.design_model.specs.WholeNumbers.{is_digit_string, parsed_digits, parsed_whole, signed_number}
use Rattle.design_model.specs.declared.whole_number.Whole.TheVariants as whole

pub same_number : (m n : ℕ) → (m == n) ≡ true → m ≡ n
same_number m n is = grind (arith, nat_tests)

-- a number equals itself, and equal numbers are the same
pub eq_self : (n : ℕ) → (n == n) ≡ true
eq_self n = grind (arith, nat_tests)

-- two tests of which each gives the other are the same
pub same_test : (s t : Bool) → (s ≡ true → t ≡ true) → (t ≡ true → s ≡ true) → s ≡ t
same_test s t h1 h2 = grind (arith, nat_tests)

-- a lesser number differs
pub differs : (m n : ℕ) → m < n → (m == n) ≡ false
differs m n h = grind (arith, nat_tests)

-- A number passes the test with an equal one.
pub number_found : (m n : ℕ) → m ≡ n → (m == n) ≡ true
number_found m n is = grind (arith, nat_tests)

-- One of two tests holds, and each has another that follows from it.
pub either_way : (x y x' y' : Bool) → (x ≡ true → x' ≡ true) → (y ≡ true → y' ≡ true) → (x || y) ≡ true → (x' || y') ≡ true
either_way x y x' y' h1 h2 h3 = grind (arith, nat_tests, or_left, or_right)

-- what is there is the same
pub some_same : {A : Type 0} (x y : A) → Some x ≡ Some y → x ≡ y
some_same x y is = cc

pub and_false : (b : Bool) → (b && false) ≡ false
and_false b = grind (arith, nat_tests)

pub first_true : (a b : Bool) → (a && b) ≡ true → a ≡ true
first_true a b h1 = grind (arith, nat_tests)

pub second_true : (a b : Bool) → (a && b) ≡ true → b ≡ true
second_true a b h1 = grind (arith, nat_tests)

pub differs_back : (m n : ℕ) → m < n → (n == m) ≡ false
differs_back m n h = grind (arith, nat_tests)

-- a test that holds as a fact, and back
pub less_test : (m n : ℕ) → m < n → nat_lt m n ≡ true
less_test m n h = grind (arith, nat_tests)

-- std's view of decimal digits
pub decimal_model : IsNumeralModel (λ ds. all_ascii_digits ds ≡ true) (digits_value 10)
decimal_model = numerals_by_value (λ ds. all_ascii_digits ds ≡ true) tells_all_ascii_digits

pub test_none : {F : Type 0} (test : Bool) (found : F) → cond test None (Some found) ≡ None → test ≡ true
test_none test found h1 = grind (arith, nat_tests)

pub digits_read : (minus : Bool) (ds : List ℕ) (n : ℕ) → is_digit_string ds ≡ true → digits_value 10 ds ≡ n → n ≤ 999999999
    → parsed_digits minus ds ≡ whole.Value (signed_number minus n)
digits_read minus ds n numeral value small = grind (arith, nat_tests)

-- The lists of a list of lists are in their concatenation.
pub concat_has : (xss : List (List ℕ)) (xs : List ℕ) (x : ℕ) → Contains xss xs → Contains xs x → Contains (concat xss) x
concat_has [] xs x (k, below, is) has = absurd (omega (arith, below))
concat_has (ys ∷ xss) xs x (zero, below, is) has =
    Contains-append_left ys (concat xss) x (subst (λ (zs : List ℕ). Contains zs x) (sym is) has)
concat_has (ys ∷ xss) xs x (suc k, below, is) has =
    Contains-append_right ys (concat xss) x (concat_has xss xs x (k, omega (arith, below), is) has)

-- the index of the line of an end
pub half : (k : ℕ) → (2 * k) / 2 ≡ k
half k = omega arith

pub half_more : (k : ℕ) → (2 * k + 1) / 2 ≡ k
half_more k = omega arith

-- each of some digits is one
pub digit_among : (bs : List ℕ) (i : ℕ) → all_ascii_digits bs ≡ true → i < length bs → is_ascii_digit (get_or bs i 0) ≡ true
digit_among [] i all there = absurd (omega arith)
digit_among (b ∷ bs) zero all there = (and_parts (is_ascii_digit b) (all_ascii_digits bs) all).0
digit_among (b ∷ bs) (suc i) all there =
    digit_among bs i (and_parts (is_ascii_digit b) (all_ascii_digits bs) all).1 (omega arith)

-- digits spell the number that they write
pub numeral_some : (ds : List ℕ) → 0 < length ds → all_ascii_digits ds ≡ true → is_digit_string ds ≡ true
numeral_some ds h1 h2 = grind (arith, nat_tests)

-- the lines of the first piece, and of those after it
pub below_left : (n : ℕ) (xs ys : List ℕ) → All (λ line. line < n) (xs ++ ys) → All (λ line. line < n) xs
below_left n [] ys all = All-nil (λ line. line < n)
below_left n (x ∷ xs) ys all =
    All-cons (λ line. line < n) x xs (All-head (λ line. line < n) x (xs ++ ys) all)
    (below_left n xs ys (All-tail (λ line. line < n) x (xs ++ ys) all))

pub below_right : (n : ℕ) (xs ys : List ℕ) → All (λ line. line < n) (xs ++ ys) → All (λ line. line < n) ys
below_right n [] ys all = all
below_right n (x ∷ xs) ys all = below_right n xs ys (All-tail (λ line. line < n) x (xs ++ ys) all)

-- a row after a call on its slice
pub front_written : (len : ℕ) (new old : List ℕ) → length new ≡ len → take len (new ++ drop (length new) old) ≡ new
front_written len new old h =
    subst (λ (n : ℕ). take n (new ++ drop (length new) old) ≡ new) h (take-append_seam new (drop (length new) old))

pub suc_zero : (n : ℕ) → (suc n == 0) ≡ false
suc_zero n = grind (arith, nat_tests)

pub some_of : (n : ℕ) → (n == 0) ≡ false → 1 ≤ n
some_of n test = grind (arith, nat_tests, test)

-- a cursor that isn't 0 is one more than an end, whose line has an index and starts at the junction
pub one_before : (number : ℕ) → (number ≡ 0 → ⊥) → number ≡ number - 1 + 1
one_before number h1 = grind (arith, nat_tests)

-- A number of a list that passes is kept.
pub filter_has : (p : ℕ → Bool) (xs : List ℕ) (x : ℕ) → Contains xs x → p x ≡ true → Contains (filter p xs) x
filter_has p [] x (k, below, is) passes = absurd (omega (arith, below))
filter_has p (y ∷ xs) x (zero, below, is) passes = grind (arith, nat_tests)
filter_has p (y ∷ xs) x (suc k, below, is) passes = by_test (p y) (filter_has p xs x (k, omega (arith, below), is) passes)
  where
    by_test : (t : Bool) → Contains (filter p xs) x → Contains (cond t (y ∷ filter p xs) (filter p xs)) x
    by_test true rest = (suc rest.0, omega (arith, rest.1), rest.2)
    by_test false rest = rest

-- The first index of a range, and the others.
pub next_range : (from to : ℕ) → from < to → range_with_len from (to - from) ≡ from ∷ range_with_len (from + 1) (to - (from + 1))
next_range from to below = grind (arith, nat_tests)

-- A first index that does not pass is left out.
pub filter_skips : (p : ℕ → Bool) (from to : ℕ) → from < to → p from ≡ false
    → filter p (range_with_len from (to - from)) ≡ filter p (range_with_len (from + 1) (to - (from + 1)))
filter_skips p from to below test = grind (arith, nat_tests, next_range)

-- A first index that passes comes first.
pub filter_takes : (p : ℕ → Bool) (from to : ℕ) → from < to → p from ≡ true
    → filter p (range_with_len from (to - from)) ≡ from ∷ filter p (range_with_len (from + 1) (to - (from + 1)))
filter_takes p from to below test = grind (arith, nat_tests, next_range)

-- and what is made of each is made
pub map_has : (f : ℕ → List ℕ) (xs : List ℕ) (x : ℕ) → Contains xs x → Contains (map f xs) (f x)
map_has f [] x (k, below, is) = absurd (omega (arith, below))
map_has f (y ∷ xs) x (zero, below, is) = (0, omega arith, ap f is)
map_has f (y ∷ xs) x (suc k, below, is) = let rest = map_has f xs x (k, omega (arith, below), is) in
    (suc rest.0, omega (arith, rest.1), rest.2)

-- What holds of all lists holds of their concatenation.
pub all_concat : (P : ℕ → Type 0) (xss : List (List ℕ)) → All (λ xs. All P xs) xss → All P (concat xss)
all_concat P [] all = All-nil P
all_concat P (xs ∷ xss) all =
    All-append P xs (concat xss) (All-head (λ xs. All P xs) xs xss all) (all_concat P xss (All-tail (λ xs. All P xs) xs xss all))

pub neg-neg : (z : ℤ) → neg_ℤ (neg_ℤ z) ≡ z
neg-neg z = omega (arith, ints)

-- a sign changes nothing of a size
pub size-neg : (z : ℤ) → unsigned_abs (neg_ℤ z) ≡ unsigned_abs z
size-neg z = grind (arith, ints)

-- digits begin with no minus sign
pub no_minus : (minus : ℕ) (ds : List ℕ) → all_ascii_digits ds ≡ true → 0 < length ds → parsed_whole ds ≡ parsed_digits false ds
no_minus minus ds h1 h2 = grind (arith, nat_tests, and_parts)

-- the numeral of a number denotes that number
pub decimal_read : (n : ℕ) → n ≤ 999999999 → parsed_whole (decimal n) ≡ whole.Value (pos n)
decimal_read n small =
    grind (arith, nat_tests, digits_decimal, decimal_model, decimal_nonempty, no_minus, digits_read, numeral_some, digits_value-decimal)

pub signed_read : (z : ℤ) → unsigned_abs z ≤ 999999999 → parsed_whole (signed_decimal z) ≡ whole.Value z
signed_read z h1 =
    grind (
      arith,
      nat_tests,
      decimal_read,
      digits_decimal,
      decimal_model,
      decimal_nonempty,
      digits_read,
      numeral_some,
      digits_value-decimal,
    )

-- a test that is one of two
pub one_of : (s t : Bool) → (s || t) ≡ true → (s ≡ true) ⊎ (t ≡ true)
one_of s t h1 = grind (arith, nat_tests)

-- a word that is found to be this text is this text
pub same_word : (word text : List ℕ) → bytes_eq word text ≡ true → word ≡ text
same_word word text found = (bytes_eq-Decides word text).0 found

-- A range rises.
pub range_rises : (from count : ℕ) → IsStrictlyIncreasing (range_with_len from count)
range_rises from count k there = grind (arith, nat_tests, length-range_with_len, get_or-range_with_len)

-- the sum of a quantity over numbers from one on
abbrev pub sum_over : (ℕ → ℕ) → ℕ → ℕ → ℕ
sum_over f at zero = 0
sum_over f at (suc n) = f at + sum_over f (at + 1) n

pub over_zero : (at n : ℕ) → sum_over (λ y. 0) at n ≡ 0
over_zero at zero = refl
over_zero at (suc n) = omega (arith, over_zero (at + 1) n)

pub unequal : (m n : ℕ) → m ≢ n → (m == n) ≡ false
unequal m n h = grind (arith, nat_tests)

pub back-there : (a b : ℤ) → (a +ℤ b) +ℤ neg_ℤ b ≡ a
back-there a b = omega (arith, ints)

-- a number that differs by nothing is the same
pub no_difference : (a b : ℤ) → unsigned_abs (b -ℤ a) ≤ 0 → a ≡ b
no_difference a b none = grind (arith, ints)

-- false is not true
pub false_true : false ≡ true → ⊥
false_true is = cc

-- what holds of all of two lists holds of each list
pub all_left : {A : Type 0} (P : A → Type 0) (xs ys : List A) → All P (xs ++ ys) → All P xs
all_left P [] ys all = All-nil P
all_left P (x ∷ xs) ys all = All-cons P x xs (All-head P x (xs ++ ys) all) (all_left P xs ys (All-tail P x (xs ++ ys) all))

pub all_right : {A : Type 0} (P : A → Type 0) (xs ys : List A) → All P (xs ++ ys) → All P ys
all_right P [] ys all = all
all_right P (x ∷ xs) ys all = all_right P xs ys (All-tail P x (xs ++ ys) all)

pub pairs_tail : {A : Type 0} (R : A → A → Type 0) (x : A) (xs : List A) → AllPairs R (x ∷ xs) → AllPairs R xs
pairs_tail R x xs pairs = λ i j d less there. pairs (suc i) (suc j) d (omega (arith, less)) (omega (arith, there))
