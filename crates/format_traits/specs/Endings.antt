-- Selection of a format by a file name: by the part after its last dot, with ASCII capitals read as
-- small letters.
use Rattle.std.specs.Prelude.{ℕ, ◌+◌, List, [], ◌∷◌, Option, Some, None, bytes_eq, ◌==◌, if◌then◌else◌, option_and_then, slice_get}
use Rattle.std.specs.Str.{str_to_ascii_lowercase}
use Rattle.format_traits.specs.Meanings.{Meaning}

-- The text after this byte, if the byte is the last dot; an ending that was found later in the name
-- stays.
abbrev pub after_dot : ℕ → List ℕ → Option (List ℕ) → Option (List ℕ)
after_dot byte rest (Some ending) = Some ending
after_dot byte rest None = if byte == 46 then Some rest else None

-- The part of a name after its last dot.
abbrev pub ending_in : List ℕ → Option (List ℕ)
ending_in [] = None
ending_in (byte ∷ rest) = after_dot byte rest (ending_in rest)

-- The index of the first format with the ending, where the first format of the list has index n.
abbrev pub ending_index_from : ℕ → List ℕ → List Meaning → Option ℕ
ending_index_from n ending [] = None
ending_index_from n ending (m ∷ more) =
    if bytes_eq m.ending ending then Some n else ending_index_from (n + 1) ending more

-- The index of the first format with the ending of a name, if the name has one.
abbrev pub ending_index : List Meaning → Option (List ℕ) → Option ℕ
ending_index meanings (Some ending) = ending_index_from 0 (str_to_ascii_lowercase ending) meanings
ending_index meanings None = None

-- The index of the format of a file name: the first whose ending is the name's.
abbrev pub format_index : List Meaning → List ℕ → Option ℕ
format_index meanings name = ending_index meanings (ending_in name)

-- The format of a file name: the first whose ending is the name's.
abbrev pub format_of : List Meaning → List ℕ → Option Meaning
format_of formats name = option_and_then (λ place. slice_get formats place)
    (format_index formats name)
