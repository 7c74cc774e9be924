-- The parsing of one line of a list. A line is its bytes without the byte 10 that ends it.
use Rattle.std.specs.Prelude.{ℕ, ◌-◌, ◌&&◌, pos, Bool, true, false, List, [], ◌∷◌, Option, Some, None, bytes_eq, codes, drop, length, nat_le, nat_lt, take, if◌then◌else◌}
use Rattle.design_model.specs.declared.whole_number.Whole.{Whole}
use Rattle.design_model.specs.declared.whole_number.Whole.TheVariants as whole
use Rattle.stitch_text.specs.declared.list_line.ListLine.{ListLine}
use Rattle.stitch_text.specs.declared.list_line.ListLine.TheVariants as line
use Rattle.stitch_text.specs.declared.list_line.TheConstants.{MAX_LINE}
use Rattle.stitch_text.specs.StitchLists.{label_line}
use Rattle.stitch_text.specs.Words.{is_valid_label, canonical_number_of}
use Rattle.text_parts.specs.Parts.{words_in}

-- The line of a block, whose thread must be a byte.
abbrev pub parsed_block : Whole → Option ListLine
parsed_block (whole.Value (pos thread)) = if nat_le thread 255 then Some (line.Block thread)
    else None
parsed_block other = None

-- The line of a needle act, by its coordinates and by whether it is a float; a far point is
-- reported as `Far`.
abbrev pub parsed_needle : Bool → Whole → Whole → Option ListLine
parsed_needle float whole.NotANumber y = None
parsed_needle float (whole.Value x) (whole.Value y) =
    Some (line.Needle (record { x = x; y = y }) float)
parsed_needle float x whole.NotANumber = None
parsed_needle float x y = Some line.Far

-- The first word of the line of a needle act.
abbrev pub needle_word : Bool → List ℕ
needle_word true = codes "float"
needle_word false = codes "needle"

-- The line of one word, if there is one.
abbrev pub parsed_list_word : List ℕ → Option ListLine
parsed_list_word word =
    if bytes_eq word (codes "trim") then Some line.Trim
    else if bytes_eq word (codes "end") then Some line.End
    else None

-- The line of some words, if there is one. The first word decides the kind of the line.
abbrev pub parsed_list_words : List (List ℕ) → Option ListLine
parsed_list_words (word ∷ []) = parsed_list_word word
parsed_list_words (word ∷ number ∷ []) =
    if bytes_eq word (codes "block") then parsed_block (canonical_number_of number) else None
parsed_list_words (word ∷ x ∷ y ∷ []) =
    if bytes_eq word (codes "needle") then parsed_needle false (canonical_number_of x)
    (canonical_number_of y)
    else if bytes_eq word (codes "float") then parsed_needle true (canonical_number_of x)
    (canonical_number_of y)
    else None
parsed_list_words words = None

-- The line that the bytes are parsed as, unless they are too long or no line.
abbrev pub parsed_list_line : List ℕ → Option ListLine
parsed_list_line bytes = if nat_lt MAX_LINE (length bytes) then None else parsed_list_words
    (words_in bytes)

-- The bytes between the seventh and the last: those where a label would be.
abbrev pub in_brackets : List ℕ → List ℕ
in_brackets bytes = take (length bytes - 8) (drop 7 bytes)

-- The label of a label line; none for any other line.
abbrev pub parsed_label : List ℕ → Option (List ℕ)
parsed_label bytes =
    if bytes_eq bytes (label_line (in_brackets bytes)) && is_valid_label (in_brackets bytes)
    then Some (in_brackets bytes) else None
