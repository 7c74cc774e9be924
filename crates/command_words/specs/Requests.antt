-- The requests that the arguments of the program represent. A name is the bytes of an argument.
use Rattle.std.specs.Prelude.{ℕ, Bool, List, [], ◌∷◌, Option, Some, None, bytes_eq, codes, is_some, option_map, if◌then◌else◌}
use Rattle.command_words.specs.Names.{if_named, names_and_rest, one_name, three_names, three_words, two_names}
use Rattle.command_words.specs.Arguments.{parsed_edits, sample_number, hoop_side}
use Rattle.command_words.specs.RefitFlags.{parsed_refits}

-- A request, with a case for each command. Edits are the bytes of their arguments.
pub data RequestValue : Type 0 where
  route : (drawing out cert : List ℕ) → RequestValue
  check : (drawing file cert : List ℕ) → RequestValue
  convert : (input output : List ℕ) → (splits cuts : Bool) → RequestValue
  show : (file : List ℕ) → RequestValue
  edit : (input output : List ℕ) → (edits : List (List ℕ)) → RequestValue
  hoop : (file : List ℕ) → (width height : ℕ) → RequestValue
  sample : (number : ℕ) → (drawing : List ℕ) → RequestValue
  migrate : (input output : List ℕ) → RequestValue
  trace : (file drawing : List ℕ) → RequestValue
  double : (drawing out cert : List ℕ) → RequestValue

-- The request to convert one file into another, by two names and flags.
abbrev pub parsed_convert : Option (List ℕ × List ℕ × List (List ℕ)) → Option RequestValue
parsed_convert (Some (input, output, flags)) =
    option_map (λ refits. convert input output refits.0 refits.1) (parsed_refits flags)
parsed_convert None = None

-- The request to edit one file into another, by two names and one or more edits.
abbrev pub parsed_edit_request : Option (List ℕ × List ℕ × List (List ℕ)) → Option RequestValue
parsed_edit_request (Some (input, output, first ∷ later)) =
    if is_some (parsed_edits (first ∷ later))
    then Some (edit input output (first ∷ later)) else None
parsed_edit_request (Some (input, output, [])) = None
parsed_edit_request None = None

-- The request to compare a file with a hoop, with parsed sides.
abbrev pub hoop_with : List ℕ → Option ℕ → Option ℕ → Option RequestValue
hoop_with file None height = None
hoop_with file (Some width) None = None
hoop_with file (Some width) (Some height) =
    option_map (λ name. hoop name width height) (if_named file)

-- The request to compare a file with a hoop, by a name and two sides.
abbrev pub parsed_hoop : Option (List ℕ × List ℕ × List ℕ) → Option RequestValue
parsed_hoop (Some (file, width, height)) = hoop_with file (hoop_side width) (hoop_side height)
parsed_hoop None = None

-- The request of a sample drawing, with a parsed number and name.
abbrev pub sample_with : Option ℕ → Option (List ℕ) → Option RequestValue
sample_with None drawing = None
sample_with (Some number) drawing = option_map (sample number) drawing

-- The request of the arguments of `sample`: a number, and a file name.
abbrev pub parsed_sample : List (List ℕ) → Option RequestValue
parsed_sample (number ∷ rest) = sample_with (sample_number number) (one_name rest)
parsed_sample [] = None

-- The request of a command and its arguments.
abbrev pub parsed_command : List ℕ → List (List ℕ) → Option RequestValue
parsed_command command words =
    if bytes_eq command (codes "route") then option_map
    (λ names. route names.0 names.1 names.2) (three_names (three_words words))
    else (if bytes_eq command (codes "check") then option_map
    (λ names. check names.0 names.1 names.2) (three_names (three_words words))
    else (if bytes_eq command (codes "convert") then parsed_convert (names_and_rest words)
    else (if bytes_eq command (codes "show") then option_map show (one_name words)
    else (if bytes_eq command (codes "edit") then parsed_edit_request (names_and_rest words)
    else (if bytes_eq command (codes "hoop") then parsed_hoop (three_words words)
    else (if bytes_eq command (codes "sample") then parsed_sample words
    else (if bytes_eq command (codes "migrate") then option_map
    (λ names. migrate names.0 names.1) (two_names (names_and_rest words))
    else (if bytes_eq command (codes "trace") then option_map
    (λ names. trace names.0 names.1) (two_names (names_and_rest words))
    else (if bytes_eq command (codes "double") then option_map
    (λ names. double names.0 names.1 names.2) (three_names (three_words words))
    else None)))))))))

-- The request that all arguments represent, or none.
abbrev pub parsed_request : List (List ℕ) → Option RequestValue
parsed_request [] = None
parsed_request (command ∷ words) = parsed_command command words
