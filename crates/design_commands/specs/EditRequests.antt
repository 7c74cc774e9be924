-- The requests of stitch_design, and what the arguments of `edit` request.
use Rattle.std.specs.Prelude.{ℕ, Bool, List, [], ◌∷◌, Option, Some, None, Result, Ok, Err, bytes_eq, if◌then◌else◌}
use Rattle.program_texts.specs.MistakenWords.{MistakenWord, then_with}
use Rattle.outside_io.specs.Files.{is_file_name}
use Rattle.design_review.specs.declared.limits.ReviewLimits.{ReviewLimits}
use Rattle.design_commands.specs.declared.mistake.Misfit.TheVariants as misfit
use Rattle.design_commands.specs.Mistakes.{mistake_at}
use Rattle.edited_designs.specs.DesignChanges.{DesignChange}
use Rattle.edited_designs.specs.EditArguments.{changes_of}
use Rattle.edited_designs.specs.EditMistakes.{edit_mistake, first_mistaken}

-- A request, with its names as bytes.
pub data RequestedDesign : Type 0 where
  look : (file : List ℕ) → ReviewLimits → RequestedDesign
  pass : (file : List ℕ) → ReviewLimits → RequestedDesign
  edit : (input output : List ℕ) → List DesignChange → RequestedDesign
  compare : (first second : List ℕ) → (threads : Bool) → RequestedDesign
  list : (file : List ℕ) → RequestedDesign
  palette : RequestedDesign
  help : RequestedDesign
  version : RequestedDesign

-- The argument, if it is a file name.
abbrev pub name_or_mistake : List ℕ → Result (List ℕ) MistakenWord
name_or_mistake word =
    if is_file_name word then Ok word else Err (mistake_at word misfit.NotAFileName)

-- The name of the output, if it differs from that of the input.
abbrev pub unless_input : (input output : List ℕ) → Result (List ℕ) MistakenWord
unless_input input output =
    if bytes_eq input output then Err (mistake_at output misfit.IsInput) else Ok output

-- The request of `edit` with those names and edits, if no argument is mistaken for an edit.
abbrev pub unless_mistaken : RequestedDesign → Option (List ℕ) → Result RequestedDesign MistakenWord
unless_mistaken made None = Ok made
unless_mistaken made (Some word) = Err (mistake_at word (misfit.Edit (edit_mistake word)))

-- The request of `edit` with those names and edits, if each argument is an edit.
abbrev pub edits_parsed : (input output : List ℕ) → List (List ℕ)
    → Result RequestedDesign MistakenWord
edits_parsed input output words =
    unless_mistaken (edit input output (changes_of words)) (first_mistaken words)

-- The request of `edit` with those names, if there are edits.
abbrev pub edits_after : (input output : List ℕ) → List (List ℕ)
    → Result RequestedDesign MistakenWord
edits_after input output [] = Err (mistake_at output misfit.NoEdit)
edits_after input output (word ∷ words) = edits_parsed input output (word ∷ words)

-- The request of `edit`: two different file names, and edits.
abbrev pub parsed_design_edit : (command : List ℕ) → List (List ℕ)
    → Result RequestedDesign MistakenWord
parsed_design_edit command [] = Err (mistake_at command misfit.NoFile)
parsed_design_edit command (input ∷ []) = Err (mistake_at input misfit.NoFile)
parsed_design_edit command (input ∷ output ∷ words) = then_with (name_or_mistake input) (λ source.
    then_with (name_or_mistake output) (λ name. then_with (unless_input source name)
    (λ target. edits_after source target words)))
