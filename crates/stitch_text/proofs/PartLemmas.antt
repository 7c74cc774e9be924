-- The parts of bytes between marks, taken one after another.
use Rattle.std.proofs.Common.{◌≡◌, ℕ, List, [], ◌∷◌, ◌++◌, arith}
use Rattle.stitch_text.proofs.Names.{nat_tests, parts_between, some_part}

-- the last part goes on
abbrev pub onto_part : List ℕ → List (List ℕ) → List (List ℕ)
onto_part part [] = part ∷ []
onto_part part (next ∷ parts) = (part ++ next) ∷ parts

abbrev pub onto_last : List (List ℕ) → List (List ℕ) → List (List ℕ)
onto_last [] behind = behind
onto_last (part ∷ []) behind = onto_part part behind
onto_last (part ∷ next ∷ parts) behind = part ∷ onto_last (next ∷ parts) behind

-- the parts of bytes one after another
pub parts_on : (mark : ℕ) (bytes more : List ℕ) → parts_between mark (bytes ++ more)
    ≡ onto_last (parts_between mark bytes) (parts_between mark more)
parts_on mark [] more = grind (arith, nat_tests, some_part)
parts_on mark (b ∷ bytes) more = grind (arith, nat_tests, some_part, (parts_on mark bytes more))

-- a part that hasn't ended goes on
pub open_part : (mark : ℕ) (part more : List ℕ) → parts_between mark part ≡ part ∷ []
    → parts_between mark (part ++ more) ≡ onto_part part (parts_between mark more)
open_part mark part more is = grind (arith, nat_tests, (parts_on mark part more))
