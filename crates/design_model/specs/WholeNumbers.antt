-- Whole numbers as text: an optional minus sign, then one or more decimal digits.
use Rattle.std.specs.Prelude.{◌==◌, ℕ, ℤ, pos, neg_ℤ, Bool, true, false, not, List, [], ◌∷◌, nat_le, if◌then◌else◌}
use Rattle.std.specs.Str.{all_ascii_digits}
use Rattle.std.specs.Str.Parse.{digits_value}
use Rattle.design_model.specs.declared.whole_number.TheConstants.{MAX_WHOLE}
use Rattle.design_model.specs.declared.whole_number.Whole.{Whole}
use Rattle.design_model.specs.declared.whole_number.Whole.TheVariants as whole

-- The test whether a text is one or more decimal digits.
abbrev pub is_digit_string : List ℕ → Bool
is_digit_string [] = false
is_digit_string (c ∷ rest) = all_ascii_digits (c ∷ rest)

-- The integer with a sign and an absolute value.
abbrev pub signed_number : Bool → ℕ → ℤ
signed_number minus size = if minus then neg_ℤ (pos size) else pos size

-- The number written by digits, given whether a minus sign precedes them.
abbrev pub parsed_digits : Bool → List ℕ → Whole
parsed_digits minus digits =
    if not (is_digit_string digits) then whole.NotANumber
    else if nat_le (digits_value 10 digits) MAX_WHOLE then whole.Value
    (signed_number minus (digits_value 10 digits))
    else whole.Outside

-- The number that a text represents. Byte 45 is the minus sign.
abbrev pub parsed_whole : List ℕ → Whole
parsed_whole [] = whole.NotANumber
parsed_whole (c ∷ rest) = if c == 45 then parsed_digits true rest else parsed_digits false
    (c ∷ rest)
