-- The names among the arguments of stitch_picture, the sides of a hoop, and the colour of a plain
-- picture.
use Rattle.std.specs.Prelude.{ℕ, ◌-◌, ◌==◌, ◌&&◌, ◌||◌, Bool, nat_le, List, Option, Some, None, Result, Ok, Err, bytes_eq, codes, drop, length, if◌then◌else◌}
use Rattle.std.specs.List.{list_all}
use Rattle.program_texts.specs.MistakenWords.{MistakenWord}
use Rattle.command_words.specs.Arguments.{natural_within}
use Rattle.design_model.specs.WholeNumbers.{parsed_whole}
use Rattle.outside_io.specs.Files.{is_file_name}
use Rattle.text_parts.specs.Parts.{split_at_byte}
use Rattle.picture_commands.specs.declared.mistake.Misfit.TheVariants as misfit
use Rattle.picture_commands.specs.declared.words.TheConstants.{MAX_HOOP_SIDE}
use Rattle.picture_commands.specs.Mistakes.{mistake_at}

-- The digits that `plain` or `plain=RRGGBB` stands for, given its parts around the equals sign.
abbrev pub plain_digits_of : List ℕ → Option (List ℕ × List ℕ) → Option (List ℕ)
plain_digits_of word None = if bytes_eq word (codes "plain") then Some (codes "ffffff") else None
plain_digits_of word (Some (name, value)) =
    if bytes_eq name (codes "plain") then Some value else None

-- The digits of the colour that an argument stands for, which may be wrong: white for `plain`.
abbrev pub plain_digits : List ℕ → Option (List ℕ)
plain_digits word = plain_digits_of word (split_at_byte 61 word)

-- A hexadecimal digit, in capitals or not.
abbrev pub is_hex_digit : ℕ → Bool
is_hex_digit digit = (nat_le 48 digit && nat_le digit 57)
    || ((nat_le 65 digit && nat_le digit 70) || (nat_le 97 digit && nat_le digit 102))

-- The colour of an argument, if it has six hexadecimal digits.
abbrev pub cloth_if : (word digits : List ℕ) → Result (List ℕ) MistakenWord
cloth_if word digits = if length digits == 6 && list_all is_hex_digit digits then Ok digits
    else Err (mistake_at word misfit.NoColour)

-- The test whether a name has the ending of a picture.
abbrev pub has_svg_ending : List ℕ → Bool
has_svg_ending word = bytes_eq (drop (length word - 4) word) (codes ".svg")

-- The argument, if it is a file name.
abbrev pub name_or_mistake : List ℕ → Result (List ℕ) MistakenWord
name_or_mistake word =
    if is_file_name word then Ok word else Err (mistake_at word misfit.NotAFileName)

-- The argument, if it is the name of a picture.
abbrev pub picture_or_mistake : List ℕ → Result (List ℕ) MistakenWord
picture_or_mistake word =
    if is_file_name word
    then (if has_svg_ending word then Ok word else Err (mistake_at word misfit.NotAPicture))
    else Err (mistake_at word misfit.NotAFileName)

-- The name of the picture, if it differs from that of an input.
abbrev pub unless_input : (input output : List ℕ) → Result (List ℕ) MistakenWord
unless_input input output =
    if bytes_eq input output then Err (mistake_at output misfit.IsInput) else Ok output

-- The side that an argument stands for, in tenths of a millimetre, from 1 to the greatest.
abbrev pub side_word : List ℕ → Option ℕ
side_word word = natural_within 1 MAX_HOOP_SIDE (parsed_whole word)

-- The side of an argument, if it stands for one.
abbrev pub side_if : (word : List ℕ) → Option ℕ → Result ℕ MistakenWord
side_if word (Some side) = Ok side
side_if word None = Err (mistake_at word misfit.SideRange)
