-- Worked keys of needle points, and the windows over sorted keys.
use Rattle.std.proofs.Common.{◌≡◌, ◌≤◌, ℕ, pos, negsuc, true, false, List, [], ◌∷◌, map, refl}
use Rattle.design_review.specs.declared.key_windows.Columns.{Columns}
use Rattle.design_review.specs.declared.key_windows.Window.{Window}
use Rattle.design_review.specs.KeyWindows.{AreColumnsAt, AreColumnsBefore, HasFewKeys, IsWindowAt, IsWindowBefore}
use Rattle.design_review.specs.NeedleKeys.{count_below, count_between, count_near, is_between, key_coordinate, key_of}

-- a coordinate counts from 32768 left of the origin, and 30000 at most either way
pub known_coordinates : map key_coordinate (pos 5 ∷ negsuc 4 ∷ pos 30001 ∷ negsuc 30000 ∷ []) ≡ 32773 ∷ 32763 ∷ 62768 ∷ 2768 ∷ []
known_coordinates = refl

-- a column counts 65536: 32771 of them, and 32764
pub known_key : key_of (record { x = pos 3; y = negsuc 3 }) ≡ 2147713020
known_key = refl

abbrev keys : List ℕ
keys = 2 ∷ 3 ∷ 5 ∷ 7 ∷ 8 ∷ []

pub known_counts : (map (is_between 3 7) keys ≡ false ∷ true ∷ true ∷ true ∷ false ∷ []) × (count_between keys 3 7 ≡ 3)
    × (count_below keys 7 ≡ 3)
known_counts = (refl, refl, refl)

-- The keys in five columns around 1000000, with those next to them that are outside: one, two, two, two and one are near it.
abbrev around : List ℕ
around = 868927 ∷ 868928 ∷ 934462 ∷ 934463 ∷ 934465 ∷ 934466 ∷ 999997 ∷ 999998 ∷ 1000002 ∷ 1000003 ∷ 1065534 ∷ 1065535
    ∷ 1065537 ∷ 1065538 ∷ 1131071 ∷ 1131072 ∷ 1131073 ∷ []

pub known_near : count_near around 1000000 ≡ 8
known_near = refl

-- a window from 3 to 7 begins after the key 2 and ends after the key 7, and one before isn't beyond
pub known_window : (w : Window) → IsWindowAt keys 3 7 w → (w.start ≡ 1) × (w.end ≡ 4)
known_window w is = (is.start, is.end)

pub known_window_before : (w : Window) → IsWindowBefore keys 3 7 w → (w.start ≤ 1) × (w.end ≤ 4)
known_window_before w is = (is.start, is.end)

-- the five windows around 1000000
pub known_columns : (c : Columns) → AreColumnsAt around 1000000 c
    → ((c.far_left.start ≡ 1) × (c.far_left.end ≡ 2)) × ((c.left.start ≡ 3) × (c.left.end ≡ 5))
    × ((c.middle.start ≡ 7) × (c.middle.end ≡ 9)) × ((c.right.start ≡ 11) × (c.right.end ≡ 13))
    × ((c.far_right.start ≡ 15) × (c.far_right.end ≡ 16))
known_columns c are = (
  (are.far_left.start, are.far_left.end),
  (are.left.start, are.left.end),
  (are.middle.start, are.middle.end),
  (are.right.start, are.right.end),
  (are.far_right.start, are.far_right.end),
)

pub known_columns_before : (c : Columns) → AreColumnsBefore around 1000000 c
    → ((c.far_left.start ≤ 1) × (c.far_left.end ≤ 2)) × ((c.left.start ≤ 3) × (c.left.end ≤ 5))
    × ((c.middle.start ≤ 7) × (c.middle.end ≤ 9)) × ((c.right.start ≤ 11) × (c.right.end ≤ 13))
    × ((c.far_right.start ≤ 15) × (c.far_right.end ≤ 16))
known_columns_before c are = (
  (are.far_left.start, are.far_left.end),
  (are.left.start, are.left.end),
  (are.middle.start, are.middle.end),
  (are.right.start, are.right.end),
  (are.far_right.start, are.far_right.end),
)

-- a million keys are few
pub known_few : (c : Columns) → HasFewKeys c → (c.far_left.end ≤ 1000000) × (c.left.end ≤ 1000000) × (c.middle.end ≤ 1000000)
    × (c.right.end ≤ 1000000) × (c.far_right.end ≤ 1000000)
known_few c few = (few.far_left, few.left, few.middle, few.right, few.far_right)
