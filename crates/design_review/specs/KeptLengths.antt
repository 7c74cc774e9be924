-- Lengths that are kept once they were computed, by the squares of their lines in square tenths of
-- a millimetre. No public clause cites this file.
use Rattle.std.specs.Prelude.{◌≡◌, ◌⊎◌, ℕ, ◌*◌, ◌<◌, List, get_or, length}
use Rattle.design_model.specs.Lengths.{whole_root}
use Rattle.design_review.specs.declared.straight_lengths.TheConstants.{NO_LENGTH}

-- A kept number: none was computed yet, or it is the length of the lines with that square, in
-- thousandths of a millimetre.
abbrev pub IsKeptLength : ℕ → ℕ → Type 0
IsKeptLength square kept = (kept ≡ NO_LENGTH) ⊎ (kept ≡ whole_root (10000 * square))

-- A table of kept numbers, by squares.
abbrev pub AreKeptLengths : List ℕ → Type 0
AreKeptLengths kept = (square : ℕ) → square < length kept
    → IsKeptLength square (get_or kept square 0)
