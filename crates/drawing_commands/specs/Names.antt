-- The names, the gap and `--keep` among the arguments of stitch_drawing.
use Rattle.std.specs.Prelude.{ℕ, pos, negsuc, Bool, true, false, List, [], ◌∷◌, Option, Some, None, Result, Ok, Err, bytes_eq, codes, nat_le, if◌then◌else◌}
use Rattle.program_texts.specs.MistakenWords.{MistakenWord, then_with}
use Rattle.design_model.specs.declared.whole_number.Whole.{Whole}
use Rattle.design_model.specs.declared.whole_number.Whole.TheVariants as whole
use Rattle.design_model.specs.WholeNumbers.{parsed_whole}
use Rattle.command_words.specs.declared.names.FileNames.{FileNames}
use Rattle.outside_io.specs.Files.{is_file_name}
use Rattle.drawing_commands.specs.declared.mistake.Misfit.TheVariants as misfit
use Rattle.drawing_commands.specs.declared.requests.TheConstants.{DEFAULT_GAP, MAX_GAP}
use Rattle.drawing_commands.specs.Mistakes.{mistake_at}

-- The gap that a number denotes, in tenths of a millimetre, if it is in range.
abbrev pub gap_of : Whole → Option ℕ
gap_of (whole.Value (pos n)) = if nat_le n MAX_GAP then Some n else None
gap_of (whole.Value (negsuc n)) = None
gap_of whole.Outside = None
gap_of whole.NotANumber = None

-- The gap of an argument, if it has one.
abbrev pub gap_if : (word : List ℕ) → Option ℕ → Result ℕ MistakenWord
gap_if word (Some gap) = Ok gap
gap_if word None = Err (mistake_at word misfit.GapRange)

-- The gap of an argument, or its mistake.
abbrev pub gap_or_mistake : List ℕ → Result ℕ MistakenWord
gap_or_mistake word = gap_if word (gap_of (parsed_whole word))

-- The argument, if it is a file name.
abbrev pub name_or_mistake : List ℕ → Result (List ℕ) MistakenWord
name_or_mistake word =
    if is_file_name word then Ok word else Err (mistake_at word misfit.NotAFileName)

-- The name of the output, if it differs from that of the input.
abbrev pub unless_input : (input output : List ℕ) → Result (List ℕ) MistakenWord
unless_input input output =
    if bytes_eq input output then Err (mistake_at output misfit.IsInput) else Ok output

-- A value, if no argument is left.
abbrev pub nothing_after : {V : Type 0} → V → List (List ℕ) → Result V MistakenWord
nothing_after made [] = Ok made
nothing_after made (word ∷ rest) = Err (mistake_at word misfit.NotUnderstood)

-- Two file names, and the arguments after them.
pub record NamedWords : Type 0 where
  pub input : List ℕ
  pub output : List ℕ
  pub rest : List (List ℕ)

-- The names of the program with the arguments after them.
abbrev pub named_words : FileNames → List (List ℕ) → NamedWords
named_words names rest =
    record { input = names.input.now; output = names.output.now; rest = rest }

-- The two different file names with which the arguments after another begin, and those after them.
abbrev pub parsed_names : (before : List ℕ) → List (List ℕ) → Result NamedWords MistakenWord
parsed_names before [] = Err (mistake_at before misfit.NoFile)
parsed_names before (input ∷ []) = Err (mistake_at input misfit.NoFile)
parsed_names before (input ∷ output ∷ words) = then_with (name_or_mistake input) (λ source.
    then_with (name_or_mistake output) (λ name. then_with (unless_input source name)
    (λ target. Ok (record { input = source; output = target; rest = words }))))

-- The gap of the arguments after a file name: the usual one, if none is given.
abbrev pub parsed_gap : List (List ℕ) → Result ℕ MistakenWord
parsed_gap [] = Ok DEFAULT_GAP
parsed_gap (gap ∷ rest) = then_with (gap_or_mistake gap) (λ g. nothing_after g rest)

-- Copies of segments are kept after the last argument `--keep`.
abbrev pub parsed_keep : List (List ℕ) → Result Bool MistakenWord
parsed_keep [] = Ok false
parsed_keep (word ∷ rest) = if bytes_eq word (codes "--keep") then nothing_after true rest
    else Err (mistake_at word misfit.NotUnderstood)
