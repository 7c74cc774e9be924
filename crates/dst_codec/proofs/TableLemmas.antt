-- The tables of the moves are those of the format.
use Rattle.std.proofs.Common.{◌≡◌, ℕ, ◌+◌, ◌-◌, ◌*◌, ◌/◌, ◌%◌, ◌<◌, ◌≤◌, ℤ, List, map, get_or, refl, ap, ◌∙◌, arith}
use Rattle.std.proofs.lemmas.List.FromFn.{get_or-map-range_with_len}
use Rattle.dst_codec.proofs.Names.{nat_tests, ints, bit_of_byte, rightwards, leftwards, upwards, downwards, biased_number, plus_bit, minus_bit, x_signs, y_signs, w8, range_with_len, sum_along}
use mir.Val.{Fits}
use Rattle.dst_codec.specs.declared.reading_tables.TheConstants.{X_OF_FIRST, X_OF_SECOND, X_OF_THIRD, Y_OF_FIRST, Y_OF_SECOND, Y_OF_THIRD}
use Rattle.dst_codec.specs.declared.writing_tables.TheConstants.{FIRST_OF_X, SECOND_OF_X, THIRD_OF_X, FIRST_OF_Y, SECOND_OF_Y, THIRD_OF_Y}

-- the entry of a table that holds a function's values
entry : (f : ℕ → ℕ) (table : List ℕ) (count n : ℕ) → table ≡ map f (range_with_len 0 count) → n < count → get_or table n 0 ≡ f n
entry f table count n is there =
    ap (λ t. get_or t n 0) is ∙ get_or-map-range_with_len f 0 count n n 0 there (omega arith)

-- the sum of two parts plus, less that of two parts minus, counted from that base
abbrev parts : ℕ → ℕ → ℕ → ℕ → ℕ → ℕ → ℕ → ℕ → ℕ
parts base lesser greater p q r s byte =
    base + (lesser * bit_of_byte byte p + greater * bit_of_byte byte r) - (lesser * bit_of_byte byte q + greater * bit_of_byte byte s)

-- the tables of the first, the second and the third byte
x_first_is : X_OF_FIRST ≡ map (parts 10 1 9 1 2 4 8) (range_with_len 0 256)
x_first_is = refl

x_second_is : X_OF_SECOND ≡ map (parts 30 3 27 1 2 4 8) (range_with_len 0 256)
x_second_is = refl

x_third_is : X_OF_THIRD ≡ map (parts 81 0 81 1 2 4 8) (range_with_len 0 256)
x_third_is = refl

y_first_is : Y_OF_FIRST ≡ map (parts 10 1 9 64 128 16 32) (range_with_len 0 256)
y_first_is = refl

y_second_is : Y_OF_SECOND ≡ map (parts 30 3 27 64 128 16 32) (range_with_len 0 256)
y_second_is = refl

y_third_is : Y_OF_THIRD ≡ map (parts 81 0 81 64 128 16 32) (range_with_len 0 256)
y_third_is = refl

-- entries of three tables, which count from the least, and their sum
pub record Sums (a b c forth back : ℕ) : Type 0 where
  pub two : a + b ≤ 80
  pub most : a + b + c ≤ 242
  pub value : a + b + c + back ≡ 121 + forth

-- three bytes' sums of one axis, by the worths of its bits
axis : (one one' nine nine' a b c x y z : ℕ) → x ≡ parts 10 1 9 one one' nine nine' a → y ≡ parts 30 3 27 one one' nine nine' b
    → z ≡ parts 81 0 81 one one' nine nine' c → Sums x y z (sum_along one nine a b c) (sum_along one' nine' a b c)
axis one one' nine nine' a b c x y z h1 h2 h3 = grind (arith, nat_tests, ints)

pub x_sums : (a b c : ℕ) → Fits w8 a → Fits w8 b → Fits w8 c
    → Sums (get_or X_OF_FIRST a 0) (get_or X_OF_SECOND b 0) (get_or X_OF_THIRD c 0) (rightwards a b c) (leftwards a b c)
x_sums a b c of_a of_b of_c = axis 1 2 4 8 a b c _ _ _
    (entry (parts 10 1 9 1 2 4 8) X_OF_FIRST 256 a x_first_is (omega (arith, of_a)))
    (entry (parts 30 3 27 1 2 4 8) X_OF_SECOND 256 b x_second_is (omega (arith, of_b)))
    (entry (parts 81 0 81 1 2 4 8) X_OF_THIRD 256 c x_third_is (omega (arith, of_c)))

pub y_sums : (a b c : ℕ) → Fits w8 a → Fits w8 b → Fits w8 c
    → Sums (get_or Y_OF_FIRST a 0) (get_or Y_OF_SECOND b 0) (get_or Y_OF_THIRD c 0) (downwards a b c) (upwards a b c)
y_sums a b c of_a of_b of_c = axis 64 128 16 32 a b c _ _ _
    (entry (parts 10 1 9 64 128 16 32) Y_OF_FIRST 256 a y_first_is (omega (arith, of_a)))
    (entry (parts 30 3 27 64 128 16 32) Y_OF_SECOND 256 b y_second_is (omega (arith, of_b)))
    (entry (parts 81 0 81 64 128 16 32) Y_OF_THIRD 256 c y_third_is (omega (arith, of_c)))

-- a number that is small fits in a byte
pub fits_byte : (n most : ℕ) → n ≤ most → most ≤ 255 → Fits w8 n
fits_byte n most small few = omega (arith, small, few)

-- what a number from -121, counted from 0, puts into a record: its digits less one, by their parts
abbrev plus_at : ℕ → ℕ → ℕ
plus_at part n = n / part % 3 / 2

abbrev minus_at : ℕ → ℕ → ℕ
minus_at part n = (2 - n / part % 3) / 2

-- the half byte of two parts
abbrev half : ℕ → ℕ → ℕ → ℕ
half near far n = plus_at near n + 2 * minus_at near n + 4 * plus_at far n + 8 * minus_at far n

first_of_x_is : FIRST_OF_X ≡ map (half 1 9) (range_with_len 0 243)
first_of_x_is = refl

second_of_x_is : SECOND_OF_X ≡ map (half 3 27) (range_with_len 0 243)
second_of_x_is = refl

third_of_x_is : THIRD_OF_X ≡ map (λ n. 3 + 4 * plus_at 81 n + 8 * minus_at 81 n) (range_with_len 0 243)
third_of_x_is = refl

first_of_y_is : FIRST_OF_Y ≡ map (λ n. 16 * half 9 1 n) (range_with_len 0 243)
first_of_y_is = refl

second_of_y_is : SECOND_OF_Y ≡ map (λ n. 16 * half 27 3 n) (range_with_len 0 243)
second_of_y_is = refl

third_of_y_is : THIRD_OF_Y ≡ map (λ n. 16 * plus_at 81 n + 32 * minus_at 81 n) (range_with_len 0 243)
third_of_y_is = refl

-- the two entries of a byte
pub record Shares (x y of_x of_y most : ℕ) : Type 0 where
  pub sum : x + y ≡ of_x + of_y
  pub small : x + y ≤ most

-- a part is taken in one way
one_way : (part n : ℕ) → plus_at part n + minus_at part n ≤ 1
one_way part n = omega arith

half_small : (near far n : ℕ) → half near far n ≤ 10
half_small near far n = omega (arith, one_way near n, one_way far n)

third_small : (n : ℕ) → 4 * plus_at 81 n + 8 * minus_at 81 n ≤ 8
third_small n = omega (arith, one_way 81 n)

shares : (x y of_x of_y most : ℕ) → x ≡ of_x → y ≡ of_y → of_x + of_y ≤ most → Shares x y of_x of_y most
shares x y of_x of_y most h1 h2 h3 = grind (arith, nat_tests, ints)

-- the entry of a table at a number's place
at_number : (f : ℕ → ℕ) (table : List ℕ) (z : ℤ) (n : ℕ) → table ≡ map f (range_with_len 0 243) → n ≡ biased_number z → n ≤ 242
    → get_or table n 0 ≡ f (biased_number z)
at_number f table z n is of_z there = entry f table 243 n is (omega (arith, there)) ∙ ap f of_z

pub first_shares : (x y : ℤ) (i j : ℕ) → i ≡ biased_number x → j ≡ biased_number y → i ≤ 242 → j ≤ 242
    → Shares (get_or FIRST_OF_X i 0) (get_or FIRST_OF_Y j 0) (x_signs 1 9 x) (16 * y_signs 1 9 y) 255
first_shares x y i j of_x of_y small_x small_y = shares _ _ _ _ 255
    (at_number (half 1 9) FIRST_OF_X x i first_of_x_is of_x small_x)
    (at_number (λ n. 16 * half 9 1 n) FIRST_OF_Y y j first_of_y_is of_y small_y)
    (omega (arith, half_small 1 9 (biased_number x), half_small 9 1 (biased_number y)))

pub second_shares : (x y : ℤ) (i j : ℕ) → i ≡ biased_number x → j ≡ biased_number y → i ≤ 242 → j ≤ 242
    → Shares (get_or SECOND_OF_X i 0) (get_or SECOND_OF_Y j 0) (x_signs 3 27 x) (16 * y_signs 3 27 y) 255
second_shares x y i j of_x of_y small_x small_y = shares _ _ _ _ 255
    (at_number (half 3 27) SECOND_OF_X x i second_of_x_is of_x small_x)
    (at_number (λ n. 16 * half 27 3 n) SECOND_OF_Y y j second_of_y_is of_y small_y)
    (omega (arith, half_small 3 27 (biased_number x), half_small 27 3 (biased_number y)))

pub third_shares : (x y : ℤ) (i j : ℕ) → i ≡ biased_number x → j ≡ biased_number y → i ≤ 242 → j ≤ 242
    → Shares (get_or THIRD_OF_X i 0) (get_or THIRD_OF_Y j 0)
    (3 + 4 * plus_bit 81 x + 8 * minus_bit 81 x) (16 * plus_bit 81 y + 32 * minus_bit 81 y) 63
third_shares x y i j of_x of_y small_x small_y = shares _ _ _ _ 63
    (at_number (λ n. 3 + 4 * plus_at 81 n + 8 * minus_at 81 n) THIRD_OF_X x i third_of_x_is of_x small_x)
    (at_number (λ n. 16 * plus_at 81 n + 32 * minus_at 81 n) THIRD_OF_Y y j third_of_y_is of_y small_y)
    (omega (arith, third_small (biased_number x), third_small (biased_number y)))
