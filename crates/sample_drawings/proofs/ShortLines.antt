-- The lines of a sample are short, and few.
use Rattle.std.proofs.Common.{◌≡◌, ℕ, pos, ◌+◌, ◌*◌, ◌-ℤ◌, ◌%◌, ◌<◌, ◌≤◌, max, unsigned_abs, Bool, true, false, [], ◌∷◌, ◌++◌, length, All, refl, arith, length-append}
use Rattle.std.proofs.lemmas.Bool.{and_parts}
use Rattle.std.proofs.lemmas.Grind.{div_ceil_times}
use Rattle.std.proofs.lemmas.Int.{ints}
use Rattle.std.specs.Int.{div_ceil}
use Rattle.std.specs.Ordering.{int_eq}
use Rattle.sample_drawings.proofs.Names.{max-le, mod-lt, nat_tests, Decides-int_eq, All-append, All-cons, All-nil, Point, Segment, drawn_number, line_across, segment_between, cells_per_side, cell_kind, diagonals, line_down, falls_left, falls_right, junctions_per_side, segment_if, row_major_index, row_by_row, sample_segments, IsShortSegment}
use Rattle.design_model.specs.Points.{is_same_point, is_point_within}
use Rattle.sample_drawings.proofs.RowLemmas.{all_rows, few_rows}

-- a place on a sheet
abbrev at : ℕ → ℕ → Point
at x y = record { x = pos x; y = pos y }

-- numbers that are near each other
record IsNear (a b : ℕ) : Type 0 where
  low : a ≤ b + 149
  high : b ≤ a + 149

-- they differ by no more
gap_small : (a b : ℕ) → IsNear a b → unsigned_abs (pos b -ℤ pos a) ≤ 149
gap_small a b near = omega (arith, ints, near.low, near.high)

-- so few steps lead over such a gap
few_steps : (size : ℕ) → size ≤ 149 → div_ceil size 25 + 0 ≤ 6
few_steps size small = let times = div_ceil_times size 25 (omega arith) in omega (arith, times.1)

-- a place on the sheet is in range
in_range : (x y : ℕ) → x ≤ 30000 → y ≤ 30000 → is_point_within 30000 (at x y) ≡ true
in_range x y line_across line_down = grind (arith, nat_tests)

-- places that differ are found to differ
found_apart : (same : Bool) (a b c d : ℕ) → (a ≡ c → b ≡ d → ⊥) → is_same_point (at a b) (at c d) ≡ same → same ≡ false
found_apart false a b c d differ is = refl
found_apart true a b c d differ is =
    let both = and_parts (int_eq (pos a) (pos c)) (int_eq (pos b) (pos d)) is in
    let x : pos a ≡ pos c = (Decides-int_eq (pos a) (pos c)).0 both.0 in
    let y : pos b ≡ pos d = (Decides-int_eq (pos b) (pos d)).0 both.1 in
    absurd (differ (omega (arith, ints, x)) (omega (arith, ints, y)))

-- a line between places on the sheet that are near each other
short_line : (a b c d : ℕ) → a ≤ 30000 → b ≤ 30000 → c ≤ 30000 → d ≤ 30000 → IsNear a c → IsNear b d
    → (a ≡ c → b ≡ d → ⊥) → IsShortSegment (record { from = at a b; to = at c d })
short_line a b c d ax by cx dy near_x near_y differ = record {
  from = in_range a b ax by;
  to = in_range c d cx dy;
  apart = found_apart (is_same_point (at a b) (at c d)) a b c d differ refl;
  cost = few_steps (max (unsigned_abs (pos c -ℤ pos a)) (unsigned_abs (pos d -ℤ pos b)))
      (max-le (gap_small a c near_x) (gap_small b d near_y));
}

-- the result of a draw
below_50 : (number draw : ℕ) → drawn_number number draw 50 < 50
below_50 number draw = mod-lt _ (omega arith)

-- so few cells there are
few_cells : (number : ℕ) → cells_per_side number ≤ 15
few_cells number = let rest : number % 15 < 15 = mod-lt number (omega arith) in omega (arith, rest)

-- numbers of columns or rows that are the same, or one after the other
record AreNext (i k : ℕ) : Type 0 where
  first : i ≤ 15
  second : k ≤ 15
  low : i ≤ k + 1
  high : k ≤ i + 1

-- places at such columns are near each other
near_places : (i k a c : ℕ) → AreNext i k → a < 50 → c < 50 → IsNear (100 * i + a) (100 * k + c)
near_places i k a c next from to = record {
  low = omega (arith, next.low);
  high = omega (arith, next.high);
}

-- a line between junctions of such columns and rows
short_between : (number i j k l : ℕ) → AreNext i k → AreNext j l → (i ≡ k → j ≡ l → ⊥) → IsShortSegment (segment_between number i j k l)
short_between number i j k l columns rows differ =
    let from = 2 * row_major_index (junctions_per_side number) i j in
    let to = 2 * row_major_index (junctions_per_side number) k l in
    let a = drawn_number number (from + 1) 50 in
    let b = drawn_number number (from + 2) 50 in
    let c = drawn_number number (to + 1) 50 in
    let d = drawn_number number (to + 2) 50 in
    let a_low : a < 50 = below_50 number (from + 1) in
    let b_low : b < 50 = below_50 number (from + 2) in
    let c_low : c < 50 = below_50 number (to + 1) in
    let d_low : d < 50 = below_50 number (to + 2) in
    short_line (100 * i + a) (100 * j + b) (100 * k + c) (100 * l + d)
    (omega (arith, columns.first)) (omega (arith, rows.first)) (omega (arith, columns.second)) (omega (arith, rows.second))
    (near_places i k a c columns a_low c_low) (near_places j l b d rows b_low d_low)
    (λ x y. differ (omega (arith, x)) (omega (arith, y)))

-- one line alone
short_one : (line : Segment) → IsShortSegment line → All IsShortSegment (line ∷ [])
short_one line short = All-cons IsShortSegment line [] short (All-nil IsShortSegment)

-- one line, or none
short_if : (there : Bool) (line : Segment) → IsShortSegment line → All IsShortSegment (segment_if there line)
short_if true line short = short_one line short
short_if false line short = All-nil IsShortSegment

-- that is one line at most
few_if : (there : Bool) (line : Segment) → length (segment_if there line) ≤ 1
few_if true line = omega arith
few_if false line = omega arith

-- the columns or rows beside a cell, in order
next : (i : ℕ) → i < 15 → AreNext i (i + 1)
next i cell = record { first = omega arith; second = omega arith; low = omega arith; high = omega arith }

-- and the other way round
before : (i : ℕ) → i < 15 → AreNext (i + 1) i
before i cell = record { first = omega arith; second = omega arith; low = omega arith; high = omega arith }

-- a column or row and itself
alike : (i : ℕ) → i ≤ 15 → AreNext i i
alike i there = record { first = there; second = there; low = omega arith; high = omega arith }

-- the diagonals of a cell are short
short_diagonals : (number i j : ℕ) → i < 15 → j < 15 → All IsShortSegment (diagonals number i j)
short_diagonals number i j column row =
    let kind = cell_kind number i j in
    let right = segment_between number i j (i + 1) (j + 1) in
    let left = segment_between number (i + 1) j i (j + 1) in
    All-append IsShortSegment (segment_if (falls_right kind) right) (segment_if (falls_left kind) left)
    (short_if (falls_right kind) right
    (short_between number i j (i + 1) (j + 1) (next i column) (next j row) (λ x y. absurd (omega (arith, x)))))
    (short_if (falls_left kind) left
    (short_between number (i + 1) j i (j + 1) (before i column) (next j row) (λ x y. absurd (omega (arith, x)))))

-- and there are two at most
few_diagonals : (number i j : ℕ) → length (diagonals number i j) ≤ 2
few_diagonals number i j =
    let kind = cell_kind number i j in
    let right = segment_if (falls_right kind) (segment_between number i j (i + 1) (j + 1)) in
    let left = segment_if (falls_left kind) (segment_between number (i + 1) j i (j + 1)) in
    omega (
      arith,
      length-append right left,
      few_if (falls_right kind) (segment_between number i j (i + 1) (j + 1)),
      few_if (falls_left kind) (segment_between number (i + 1) j i (j + 1)),
    )

-- all lines of a sample are short
pub all_short : (number : ℕ) → All IsShortSegment (sample_segments number)
all_short number =
    let cells = cells_per_side number in
    let few = few_cells number in
    let lying = all_rows IsShortSegment cells (cells + 1) (line_across number)
    (λ i j column row. short_one (segment_between number i j (i + 1) j)
    (short_between number i j (i + 1) j (next i (omega (arith, few, column))) (alike j (omega (arith, few, row)))
    (λ x y. absurd (omega (arith, x))))) in
    let standing = all_rows IsShortSegment (cells + 1) cells (line_down number)
    (λ i j column row. short_one (segment_between number i j i (j + 1))
    (short_between number i j i (j + 1) (alike i (omega (arith, few, column))) (next j (omega (arith, few, row)))
    (λ x y. absurd (omega (arith, y))))) in
    let leaning = all_rows IsShortSegment cells cells (diagonals number)
    (λ i j column row. short_diagonals number i j (omega (arith, few, column)) (omega (arith, few, row))) in
    let downwards = row_by_row (cells + 1) cells (line_down number) in
    let diagonal = row_by_row cells cells (diagonals number) in
    let beside = row_by_row cells (cells + 1) (line_across number) in
    All-append IsShortSegment (beside ++ downwards) diagonal (All-append IsShortSegment beside downwards lying standing) leaning

-- there are 930 at most
pub few_lines : (number : ℕ) → length (sample_segments number) ≤ 930
few_lines number =
    let cells = cells_per_side number in
    let few = few_cells number in
    let lying = few_rows cells (cells + 1) 1 15 16 (line_across number) (λ i j. omega arith) few (omega (arith, few)) in
    let standing = few_rows (cells + 1) cells 1 16 15 (line_down number) (λ i j. omega arith) (omega (arith, few)) few in
    let leaning = few_rows cells cells 2 15 15 (diagonals number) (few_diagonals number) few few in
    let downwards = row_by_row (cells + 1) cells (line_down number) in
    let diagonal = row_by_row cells cells (diagonals number) in
    let beside = row_by_row cells (cells + 1) (line_across number) in
    omega (arith, length-append (beside ++ downwards) diagonal, length-append beside downwards, lying, standing, leaning)
