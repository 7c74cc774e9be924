-- What is said of an argument that is no edit of a design.
use Rattle.std.specs.Prelude.{ℕ, List, [], ◌∷◌, Option, Some, None, bytes_eq, codes, is_some, if◌then◌else◌}
use Rattle.command_words.specs.Arguments.{equals_sign}
use Rattle.edited_designs.specs.declared.edit_keys.EditKey.{EditKey}
use Rattle.edited_designs.specs.declared.edit_keys.EditKey.TheVariants as key
use Rattle.edited_designs.specs.declared.edit_mistakes.EditMistake.{EditMistake}
use Rattle.edited_designs.specs.declared.edit_mistakes.EditMistake.TheVariants as mistake
use Rattle.edited_designs.specs.EditArguments.{parsed_change}
use Rattle.edited_designs.specs.EditKeys.{named_key}
use Rattle.text_parts.specs.Parts.{split_at_byte}

-- The range of a key's number.
abbrev pub range_text : EditKey → List ℕ
range_text key.Tie = codes "from 8 to 18"
range_text key.Cut = codes "from 0 to 60000"
range_text key.Float = codes "from 1 to 60000"
range_text key.Merge = codes "from 1 to 100"
range_text key.Bean = codes "from 1 to 10"
range_text key.Scale = codes "from 1 to 1000"

-- What is said of a mistaken edit.
abbrev pub edit_mistake_text : EditMistake → List ℕ
edit_mistake_text mistake.NotAnEdit = codes "not an edit"
edit_mistake_text mistake.NotALabel = codes "at most 16 printable characters"
edit_mistake_text (mistake.Range key) = range_text key

-- The mistake of an argument whose name has that key, if it has one.
abbrev pub mistake_by_key : List ℕ → Option EditKey → EditMistake
mistake_by_key name (Some key) = mistake.Range key
mistake_by_key name None =
    if bytes_eq name (codes "name") then mistake.NotALabel else mistake.NotAnEdit

-- The mistake of an argument with those parts before and after the equals sign.
abbrev pub mistake_of_parts : Option (List ℕ × List ℕ) → EditMistake
mistake_of_parts None = mistake.NotAnEdit
mistake_of_parts (Some (name, value)) = mistake_by_key name (named_key name)

-- The mistake of an argument that is no edit of a design.
abbrev pub edit_mistake : List ℕ → EditMistake
edit_mistake word = mistake_of_parts (split_at_byte equals_sign word)

-- The first argument that is no edit of a design, if there is one.
abbrev pub first_mistaken : List (List ℕ) → Option (List ℕ)
first_mistaken [] = None
first_mistaken (word ∷ words) = if is_some (parsed_change word) then first_mistaken words
    else Some word
