-- The words of a line and the numbers in them: decimal, without leading zeros and without -0.
use Rattle.std.specs.Prelude.{ℕ, ◌-◌, ◌==◌, ◌&&◌, ◌||◌, Bool, false, not, List, [], ◌∷◌, length, get_or, nat_le, if◌then◌else◌}
use Rattle.std.specs.List.{list_all}
use Rattle.design_model.specs.declared.design.TheConstants.{MAX_LABEL}
use Rattle.design_model.specs.declared.whole_number.Whole.{Whole}
use Rattle.design_model.specs.declared.whole_number.Whole.TheVariants as whole
use Rattle.design_model.specs.WholeNumbers.{parsed_whole}

-- True where the first digit is a zero (48).
abbrev pub has_leading_zero : List ℕ → Bool
has_leading_zero [] = false
has_leading_zero (b ∷ rest) = b == 48

-- True for the canonical text of a number: a zero comes first only where it is the entire word. 45
-- is the minus sign.
abbrev pub is_canonical_number : List ℕ → Bool
is_canonical_number [] = false
is_canonical_number (b ∷ rest) = if b == 45 then not (has_leading_zero rest)
    else (not (b == 48) || length rest == 0)

-- The number of a word of any length, where the word is canonical.
abbrev pub canonical_number_of : List ℕ → Whole
canonical_number_of word = if is_canonical_number word then parsed_whole word else whole.NotANumber

-- True for a printable character of ASCII.
abbrev pub is_printable : ℕ → Bool
is_printable byte = nat_le 32 byte && nat_le byte 126

-- True where the last byte is a space.
abbrev pub has_trailing_space : List ℕ → Bool
has_trailing_space text = get_or text (length text - 1) 0 == 32

-- True for a label that a design may have.
abbrev pub is_valid_label : List ℕ → Bool
is_valid_label text = nat_le (length text) MAX_LABEL
    && (list_all is_printable text && not (has_trailing_space text))
