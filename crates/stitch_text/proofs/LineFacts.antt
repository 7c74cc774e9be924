-- Worked values of lines.
use Rattle.std.proofs.Common.{◌≡◌, ℤ, pos, negsuc, Bool, true, false, [], ◌∷◌, ◌++◌, Option, None, Some, codes, refl}
use Rattle.stitch_text.proofs.Names.{ListLine, MAX_LINE, parsed_label, parsed_list_line, is_valid_label}
use Rattle.stitch_text.specs.declared.list_line.ListLine.TheVariants as line

pub known_longest_line : MAX_LINE ≡ 32
known_longest_line = refl

-- a needle and a float, with signs
abbrev pub needle : Bool → ℤ → ℤ → Option ListLine
needle float x y = Some (line.Needle (record { x = x; y = y }) float)

pub known_parsed_list_line : (parsed_list_line (codes "needle 30 -7") ≡ needle false (pos 30) (negsuc 6))
    × (parsed_list_line (codes "float -30000 0") ≡ needle true (negsuc 29999) (pos 0))
    -- a number of any length is one; 32 bytes may be a line, and 33 are none
    × (parsed_list_line (codes "needle 1234567890 0") ≡ Some line.Far)
    × (parsed_list_line (codes "needle 0 12345678901234567890123") ≡ Some line.Far)
    × (parsed_list_line (codes "needle 0 123456789012345678901234") ≡ None)
known_parsed_list_line = (refl, refl, refl, refl, refl)

-- a line with a word that is no number is no line, however far the other coordinate is
pub known_no_numbers : (parsed_list_line (codes "needle 1234567890 x") ≡ None) × (parsed_list_line (codes "needle x 1234567890") ≡ None)
    × (parsed_list_line (codes "float 7 x") ≡ None) × (parsed_list_line (codes "float 7 -1234567890") ≡ Some line.Far)
known_no_numbers = (refl, refl, refl, refl)

-- leading zeros, -0, a plus sign, further spaces and words
pub known_leading_zero : (parsed_list_line (codes "needle 03 0") ≡ None)
    × (parsed_list_line (codes "needle 3 -01") ≡ None)
    × (parsed_list_line (codes "needle -0 0") ≡ None)
    × (parsed_list_line (codes "needle 0 00") ≡ None)
    × (parsed_list_line (codes "needle +3 0") ≡ None)
    × (parsed_list_line (codes "needle  3 0") ≡ None)
    × (parsed_list_line (codes "trim ") ≡ None)
    × (parsed_list_line (codes "needle 3 0 0") ≡ None)
    × (parsed_list_line (codes "end" ++ 13 ∷ []) ≡ None)
    -- a thread is a byte
    × (parsed_list_line (codes "block 255") ≡ Some (line.Block 255))
    × (parsed_list_line (codes "block 256") ≡ None)
    × (parsed_list_line (codes "block -1") ≡ None)
    × (parsed_list_line (codes "trim") ≡ Some line.Trim)
    × (parsed_list_line (codes "end") ≡ Some line.End)
known_leading_zero = (refl, refl, refl, refl, refl, refl, refl, refl, refl, refl, refl, refl, refl, refl)

-- labels hold spaces and brackets, but no space at the end, and 16 bytes at most
pub known_label : parsed_label (codes "label [a ]]") ≡ Some (codes "a ]")
known_label = refl

pub known_no_label : parsed_label (codes "label []") ≡ Some []
known_no_label = refl

pub known_open_label : parsed_label (codes "label [") ≡ None
known_open_label = refl

pub known_parsed_label : (parsed_label (codes "label [a ]") ≡ None)
    × (parsed_label (codes "label [a] ") ≡ None)
known_parsed_label = (refl, refl)

pub known_is_valid_label : (is_valid_label (codes "Rose of Damascus") ≡ true)
    × (is_valid_label (codes "Roses of Damascus") ≡ false)
    × (is_valid_label (127 ∷ []) ≡ false)
    × (is_valid_label (31 ∷ []) ≡ false)
known_is_valid_label = (refl, refl, refl, refl)
