-- Worked values of whole numbers as text.
use Rattle.std.proofs.Common.{◌≡◌, pos, negsuc, [], ◌∷◌, refl}
use Rattle.design_model.specs.declared.whole_number.Whole.TheVariants as whole
use Rattle.design_model.specs.WholeNumbers.{parsed_whole}

-- `-05` and `0`
pub known_parsed_whole : (parsed_whole (45 ∷ 48 ∷ 53 ∷ []) ≡ whole.Value (negsuc 4))
    × (parsed_whole (45 ∷ 48 ∷ []) ≡ whole.Value (pos 0))
    -- nothing, a sign alone, a plus sign, two signs, and a digit before a letter
    × (parsed_whole [] ≡ whole.NotANumber)
    × (parsed_whole (45 ∷ []) ≡ whole.NotANumber)
    × (parsed_whole (43 ∷ 53 ∷ []) ≡ whole.NotANumber)
    × (parsed_whole (45 ∷ 45 ∷ 53 ∷ []) ≡ whole.NotANumber)
    × (parsed_whole (53 ∷ 120 ∷ []) ≡ whole.NotANumber)
    -- 999999999 is the greatest, and 1000000000 is outside; zeros before it change nothing
    × (parsed_whole (57 ∷ 57 ∷ 57 ∷ 57 ∷ 57 ∷ 57 ∷ 57 ∷ 57 ∷ 57 ∷ []) ≡ whole.Value (pos 999999999))
    × (parsed_whole (45 ∷ 49 ∷ 48 ∷ 48 ∷ 48 ∷ 48 ∷ 48 ∷ 48 ∷ 48 ∷ 48 ∷ 48 ∷ []) ≡ whole.Outside)
    × (parsed_whole (48 ∷ 48 ∷ 48 ∷ 48 ∷ 48 ∷ 48 ∷ 48 ∷ 48 ∷ 48 ∷ 48 ∷ 48 ∷ 55 ∷ []) ≡ whole.Value (pos 7))
known_parsed_whole = (refl, refl, refl, refl, refl, refl, refl, refl, refl, refl)
