-- Sound sets, matches and branches, slack rows, and what a blossom makes of an array of slacks: each part that they require.
use Rattle.std.proofs.Common.{◌≡◌, ℕ, ◌+◌, ◌-◌, ◌*◌, ◌%◌, ◌<◌, ◌≤◌, List, [], ◌∷◌, length, refl, arith, sym}
use Rattle.std.specs.Prelude.{min, slice_index}
use Rattle.odd_sets.proofs.Names.{IsSlackRow, IsSoundBranch, IsSoundMatch, IsSoundPart, IsSoundSet, IsStored, TableValue, count, entry, height, odd_set_of, vertex_set}
use Rattle.odd_sets.specs.DualSets.{SlackRow}
use Rattle.odd_sets.specs.Folds.{FoldsCells}
use Rattle.odd_sets.specs.SlackRows.{IsRowSlack, SetsCells}
use Rattle.odd_sets.proofs.SetFacts.{blossom, link, part, place}

-- 0, 1 and 2 are 2 from each other; 3 is 5 from 0, 4 from 1 and 6 from 2
abbrev four : TableValue
four = record { places = 4; cells = 0 ∷ 2 ∷ 2 ∷ 5 ∷ 2 ∷ 0 ∷ 2 ∷ 4 ∷ 2 ∷ 2 ∷ 0 ∷ 6 ∷ 5 ∷ 4 ∷ 6 ∷ 0 ∷ [] }

-- a row of the vertices 1, whose own set inside has dual 3, and 2
abbrev row : List ℕ → SlackRow
row cells = record { members = 1 ∷ 2 ∷ []; below = record { key = 1; members = 1 ∷ []; dual = 3 } ∷ []; cells = cells }

-- a row has a cell for each vertex: FAR at members, else the slack from one, and none is less: 8 less 3 and 12 to 3
pub known_row : (cells : List ℕ) → IsSlackRow four (row cells) → (length cells ≡ 4) × (slice_index cells 1 ≡ 400001)
    × (slice_index cells 0 < 400001) × (slice_index cells 3 ≤ 5) × (slice_index cells 3 ≤ 12)
    × IsRowSlack four (row cells) 3 (slice_index cells 3)
known_row cells is = (
  is.size,
  is.own 1 (omega arith) (omega arith),
  is.short 0 refl (omega arith),
  is.least 1 3 (omega arith) refl (omega arith),
  is.least 2 3 (omega arith) refl (omega arith),
  is.is 3 refl (omega arith),
)

-- a slack of a row is that of a member
pub known_row_slack : (left : ℕ) (is : IsRowSlack four (row []) 3 left) → (1 ≤ count is.a (1 ∷ 2 ∷ []))
    × (left ≡ 2 * entry four is.a 3 - height is.a (record { key = 1; members = 1 ∷ []; dual = 3 } ∷ []))
known_row_slack left is = (is.here, is.exact)

-- a sound set is odd, with tight edges and a cell a vertex, and makes the heights of its members, all even or all odd
pub known_even_set : (t : TableValue) (h : ℕ → ℕ) → IsSoundSet t h (odd_set_of 3 (3 ∷ 4 ∷ []) 0 [] []) → ⊥
known_even_set t h is = other is.kept.odd
  where
    other : ◌≡◌ {A = ℕ} 0 1 → ⊥
    other same = omega (arith, same)

pub known_sound_blossom : (t : TableValue) (h : ℕ → ℕ) → IsSoundSet t h blossom
    → (2 * entry t 1 2 ≡ 9) × (2 * entry t 2 3 ≡ 11) × (2 * entry t 3 1 ≡ 10) × (1 ≡ t.places) × (12 ≡ h 2) × ((h 1 + h 2) % 2 ≡ 0)
known_sound_blossom t h is = (
  is.paid.0,
  is.paid.1.0,
  is.paid.1.1.0,
  is.near.0.size,
  is.local 2 (omega arith),
  is.even 1 2 (omega arith) (omega arith),
)

-- a sound part, match and branch: each of its sets is sound, and each of its edges is tight
pub known_sound_part : (t : TableValue) (h : ℕ → ℕ) → IsSoundPart t h (part (place 2 5) 2 3)
    → (2 * entry t 2 3 ≡ h 2 + h 3) × IsSoundSet t h (place 2 5)
known_sound_part t h is = (is.next, is.odd_set)

pub known_sound_match : (t : TableValue) (h : ℕ → ℕ) → IsSoundMatch t h (record { first = place 5 1; second = place 6 2; link = link 5 6 })
    → (2 * entry t 5 6 ≡ h 5 + h 6) × IsSoundSet t h (place 5 1) × IsSoundSet t h (place 6 2)
known_sound_match t h is = (is.link, is.first, is.second)

pub known_sound_branch : (t : TableValue) (h : ℕ → ℕ)
    → IsSoundBranch t h (record { up = link 4 5; inner = place 5 1; pair = link 5 6; outer = place 6 2 })
    → (2 * entry t 4 5 ≡ h 4 + h 5) × (2 * entry t 5 6 ≡ h 5 + h 6) × IsSoundSet t h (place 5 1) × IsSoundSet t h (place 6 2)
known_sound_branch t h is = (is.up, is.pair, is.inner, is.outer)

-- cells of some vertices are set, and no others
pub known_cells : (old new : List ℕ) → SetsCells 7 (2 ∷ 5 ∷ []) old new
    → (slice_index new 2 ≡ 7) × (slice_index new 5 ≡ 7) × (slice_index new 3 ≡ slice_index old 3)
known_cells old new sets = (sets.on 2 (omega arith), sets.on 5 (omega arith), sets.off 3 refl)

-- vertex 1 of dual 5 is merged into an array: to 3 its slack is 8 less 5, and its own cell is FAR
pub known_folded : (old new : List ℕ) (folds : FoldsCells (vertex_set 1 four 1 5) old new) → (length folds.between ≡ length old)
    × (slice_index folds.between 3 ≡ min 3 (slice_index old 3)) × (slice_index new 1 ≡ 400001)
    × (slice_index new 3 ≡ slice_index folds.between 3)
known_folded old new folds =
    (folds.size, folds.merged 3 (omega arith), folds.cleared.on 1 (omega arith), folds.cleared.off 3 refl)

-- a stored table is a table, has each entry both ways, and 0 between a vertex and itself
pub known_stored : (t : TableValue) → IsStored t → 3 < t.places → (length t.cells ≡ t.places * t.places)
    × (slice_index t.cells (3 * t.places + 1) ≡ entry t 3 1) × (entry t 3 3 ≡ 0)
known_stored t is four_there = (is.table.filled, is.mirror 3 1 four_there (omega (arith, four_there)), is.diagonal 3 four_there)
