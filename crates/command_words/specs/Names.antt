-- File names among arguments. A name is the bytes of an argument.
use Rattle.std.specs.Prelude.{ℕ, ◌&&◌, List, [], ◌∷◌, Option, Some, None, if◌then◌else◌}
use Rattle.outside_io.specs.Files.{is_file_name}

-- The argument, if it is a file name.
abbrev pub if_named : List ℕ → Option (List ℕ)
if_named word = if is_file_name word then Some word else None

-- The one argument, if it is a file name.
abbrev pub one_name : List (List ℕ) → Option (List ℕ)
one_name (name ∷ []) = if_named name
one_name words = None

-- The two file names with which arguments begin, and the arguments after them.
abbrev pub names_and_rest : List (List ℕ) → Option (List ℕ × List ℕ × List (List ℕ))
names_and_rest (input ∷ output ∷ rest) =
    if is_file_name input && is_file_name output then Some (input, output, rest) else None
names_and_rest words = None

-- The two file names, if no argument is after them.
abbrev pub two_names : Option (List ℕ × List ℕ × List (List ℕ)) → Option (List ℕ × List ℕ)
two_names (Some (input, output, [])) = Some (input, output)
two_names (Some (input, output, first ∷ later)) = None
two_names None = None

-- The arguments, if there are three.
abbrev pub three_words : List (List ℕ) → Option (List ℕ × List ℕ × List ℕ)
three_words (a ∷ b ∷ c ∷ []) = Some (a, b, c)
three_words words = None

-- The three arguments, if they are file names.
abbrev pub three_names : Option (List ℕ × List ℕ × List ℕ) → Option (List ℕ × List ℕ × List ℕ)
three_names (Some (a, b, c)) =
    if is_file_name a && is_file_name b && is_file_name c then Some (a, b, c) else None
three_names None = None
