-- Distances of a table with two places for the free ends: three terminals at junctions of a line of 9 steps.
use Rattle.std.proofs.Common.{◌≡◌, [], ◌∷◌, true, false, refl, arith}
use Rattle.odd_paths.specs.LeastRows.{RowsValue}
use Rattle.odd_sets.specs.TableValue.{TableValue}
use Rattle.odd_sets.specs.Tables.{entry}
use Rattle.free_ends.proofs.Names.{HasEndDistances, HasFilledRow, end_distance, is_filled_entry}

abbrev rows : RowsValue
rows = record {
  terminals = 0 ∷ 3 ∷ 2 ∷ [];
  table = (0 ∷ 2 ∷ 5 ∷ 9 ∷ []) ∷ (9 ∷ 7 ∷ 4 ∷ 0 ∷ []) ∷ (5 ∷ 3 ∷ 0 ∷ 4 ∷ []) ∷ [];
}

-- between terminals, to a free end, and between both
pub known_distances : (end_distance rows 0 1 ≡ 9) × (end_distance rows 1 2 ≡ 4) × (end_distance rows 2 3 ≡ 100000)
    × (end_distance rows 0 4 ≡ 100000) × (end_distance rows 3 4 ≡ 200000)
known_distances = (refl, refl, refl, refl, refl)

-- a table of five places
pub known_table : (t : TableValue) → HasEndDistances rows t → t.places ≡ 5
    → (entry t 1 2 ≡ 4) × (entry t 2 4 ≡ 100000) × (entry t 3 4 ≡ 200000) × (entry t 4 4 ≡ 0)
known_table t has five = (
  has.entries 1 2 (omega arith) (omega (arith, five)),
  has.entries 2 4 (omega arith) (omega (arith, five)),
  has.entries 3 4 (omega arith) (omega (arith, five)),
  has.none 4 (omega (arith, five)),
)

-- of the second row's entries those before the fourth place are filled
pub known_filled : (old new : TableValue) → HasFilledRow rows 1 3 old new → old.places ≡ 5
    → (new.places ≡ old.places) × (entry new 1 2 ≡ 4) × (entry new 1 3 ≡ entry old 1 3) × (entry new 0 2 ≡ entry old 0 2)
    × (entry new 1 1 ≡ entry old 1 1)
known_filled old new has five = (
  has.places,
  has.entries 1 2 (omega arith) (omega (arith, five)),
  has.entries 1 3 (omega arith) (omega (arith, five)),
  has.entries 0 2 (omega arith) (omega (arith, five)),
  has.none 1 (omega (arith, five)),
)

pub known_filled_entry : (is_filled_entry 1 3 1 2 ≡ true) × (is_filled_entry 1 3 2 2 ≡ false) × (is_filled_entry 1 3 1 3 ≡ false)
known_filled_entry = (refl, refl, refl)
