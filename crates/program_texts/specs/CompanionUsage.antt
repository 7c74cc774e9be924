-- What the programs beside stitch print of their arguments.
use Rattle.std.specs.Fmt.Cut.{floor_char_boundary}
use Rattle.std.specs.Prelude.{ℕ, List, ◌++◌, Option, Some, None, codes, length, take, nat_le, if◌then◌else◌}
use Rattle.design_model.specs.TextLines.{newline}
use Rattle.program_texts.specs.declared.companion_usage.TheConstants.{MAX_SHOWN}
use Rattle.program_texts.specs.MistakenWords.{MistakenWord}

-- What is shown of an argument: the characters that its first MAX_SHOWN bytes have entirely.
abbrev pub shown_word : List ℕ → List ℕ
shown_word word =
    if nat_le (length word) MAX_SHOWN then word else take (floor_char_boundary word MAX_SHOWN) word

-- The line about an argument that isn't understood.
abbrev pub mistake_line : (name word why : List ℕ) → List ℕ
mistake_line name word why =
    name ++ (codes ": " ++ (shown_word word ++ (codes ": " ++ (why ++ newline))))

-- The usage text of a program after a mistake, if there is one.
abbrev pub usage_with : (name usage : List ℕ) → Option MistakenWord → List ℕ
usage_with name usage None = usage
usage_with name usage (Some mistake) = mistake_line name mistake.word mistake.why ++ usage

-- The name and the version of a program, as a line.
abbrev pub version_line : List ℕ → List ℕ
version_line name = name ++ (codes " 0.4.0" ++ newline)
