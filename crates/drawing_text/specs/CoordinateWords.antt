-- The coordinate that the first word of a line denotes. No public clause cites this file.
use Rattle.std.specs.Prelude.{◌≡◌, ℕ, ℤ, ◌≤◌, Bool, true, List, [], ◌∷◌, Result, Ok, length, take, drop}
use Rattle.design_model.specs.WholeNumbers.{is_digit_string, parsed_digits, parsed_whole}
use Rattle.line_graph.specs.declared.draw_kind.DrawKind.{DrawKind}
use Rattle.drawing_text.specs.TextLines.{parsed_coordinate}
use Rattle.drawing_text.specs.Words.{is_blank_byte, words_of_line}

-- The first word of a line denotes this coordinate or has this fault, and the rest has the other
-- words.
pub record BeginsWithCoordinate (line : List ℕ) (answer : Result ℤ DrawKind) (rest : List ℕ)
    : Type 0 where
  pub word : List ℕ
  pub words : words_of_line line ≡ word ∷ words_of_line rest
  pub value : answer ≡ parsed_coordinate (parsed_whole word)

-- A word ends before these bytes: there are none, or the first is a blank.
abbrev pub ends_word : List ℕ → Bool
ends_word [] = true
ends_word (b ∷ rest) = is_blank_byte b

-- Bytes begin with digits that denote a coordinate, behind a minus sign or not, and a word ends
-- there.
pub record BeginsWithDigits (minus : Bool) (bytes : List ℕ) (n : ℤ) (rest : List ℕ) : Type 0 where
  pub count : ℕ
  pub few : count ≤ length bytes
  pub digits : is_digit_string (take count bytes) ≡ true
  pub left : rest ≡ drop count bytes
  pub ends : ends_word (drop count bytes) ≡ true
  pub value : parsed_coordinate (parsed_digits minus (take count bytes)) ≡ Ok n
