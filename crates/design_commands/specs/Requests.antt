-- What the arguments of stitch_design request, a command and its arguments; or the first that
-- isn't understood.
use Rattle.std.specs.Prelude.{ℕ, true, false, List, [], ◌∷◌, Option, None, IsSome, Result, Ok, Err, bytes_eq, codes, map, string_bytes, if◌then◌else◌}
use Rattle.command_words.specs.declared.names.FileNames.{FileNames}
use Rattle.command_words.specs.ValidNames.{AreFileNames}
use Rattle.program_texts.specs.MistakenWords.{MistakenWord, then_with, with_some_mistake}
use Rattle.outside_io.specs.Files.{IsFileName, is_file_name}
use Rattle.design_review.specs.declared.limits.ReviewLimits.{ReviewLimits}
use Rattle.design_commands.specs.declared.mistake.Misfit.TheVariants as misfit
use Rattle.design_commands.specs.declared.requests.DesignRequest.{DesignRequest}
use Rattle.design_commands.specs.declared.requests.DesignRequest.TheVariants as request
use Rattle.design_commands.specs.EditRequests.{RequestedDesign, compare, edit, help, list, look, palette, parsed_design_edit, pass, version}
use Rattle.design_commands.specs.LimitWords.{parsed_limits, usual_limits}
use Rattle.design_commands.specs.Mistakes.{mistake_at}
use Rattle.edited_designs.specs.EditArguments.{changes_of, parsed_changes}

-- A request of the program, with its names as bytes.
abbrev pub requested_design : DesignRequest → RequestedDesign
requested_design (request.Look file limits) = look file.now limits
requested_design (request.Pass file limits) = pass file.now limits
requested_design (request.Edit names words) = edit names.input.now names.output.now
    (changes_of (map (λ word. string_bytes word) words.now))
requested_design (request.Compare first second threads) = compare first.now second.now threads
requested_design (request.Threads file) = list file.now
requested_design request.Palette = palette
requested_design request.Help = help
requested_design request.Version = version

-- The names of `edit` are file names, and each argument after them is an edit.
pub record IsDesignEditRequest (names : FileNames) (words : List (List ℕ)) : Type 0 where
  pub named : AreFileNames names
  pub parsed : IsSome (parsed_changes words)

-- The names of a request are file names, and its edits are edits.
abbrev pub HasDesignNames : DesignRequest → Type 0
HasDesignNames (request.Look file limits) = IsFileName file.now
HasDesignNames (request.Pass file limits) = IsFileName file.now
HasDesignNames (request.Edit names words) =
    IsDesignEditRequest names (map (λ word. string_bytes word) words.now)
HasDesignNames (request.Compare first second threads) = IsFileName first.now × IsFileName second.now
HasDesignNames (request.Threads file) = IsFileName file.now
HasDesignNames request.Palette = Unit {0}
HasDesignNames request.Help = Unit {0}
HasDesignNames request.Version = Unit {0}

-- The request of a command with a file and limits.
abbrev pub parsed_review : (List ℕ → ReviewLimits → RequestedDesign) → (command : List ℕ)
    → List (List ℕ) → Result RequestedDesign MistakenWord
parsed_review made command [] = Err (mistake_at command misfit.NoFile)
parsed_review made command (file ∷ words) =
    if is_file_name file
    then then_with (parsed_limits usual_limits words) (λ limits. Ok (made file limits))
    else Err (mistake_at file misfit.NotAFileName)

-- A request without arguments.
abbrev pub parsed_alone : RequestedDesign → List (List ℕ) → Result RequestedDesign MistakenWord
parsed_alone made [] = Ok made
parsed_alone made (word ∷ rest) = Err (mistake_at word misfit.NotUnderstood)

-- The request of `compare` by a flag and the arguments after it.
abbrev pub parsed_compare_flag : (first second flag : List ℕ) → List (List ℕ)
    → Result RequestedDesign MistakenWord
parsed_compare_flag first second flag words =
    if bytes_eq flag (codes "--threads") then parsed_alone (compare first second true) words
    else Err (mistake_at flag misfit.NotUnderstood)

-- The request of `compare` by the arguments after its files.
abbrev pub parsed_compare_flags : (first second : List ℕ) → List (List ℕ)
    → Result RequestedDesign MistakenWord
parsed_compare_flags first second [] = Ok (compare first second false)
parsed_compare_flags first second (flag ∷ words) = parsed_compare_flag first second flag words

-- The request of `compare`.
abbrev pub parsed_compare : (command : List ℕ) → List (List ℕ)
    → Result RequestedDesign MistakenWord
parsed_compare command [] = Err (mistake_at command misfit.NoFile)
parsed_compare command (first ∷ []) = Err (mistake_at first misfit.NoFile)
parsed_compare command (first ∷ second ∷ words) =
    if is_file_name first then (if is_file_name second
    then parsed_compare_flags first second words
    else Err (mistake_at second misfit.NotAFileName))
    else Err (mistake_at first misfit.NotAFileName)

-- The request of `threads`: those of a file, or the palette.
abbrev pub parsed_threads : List (List ℕ) → Result RequestedDesign MistakenWord
parsed_threads [] = Ok palette
parsed_threads (file ∷ []) =
    if is_file_name file then Ok (list file) else Err (mistake_at file misfit.NotAFileName)
parsed_threads (file ∷ more ∷ rest) = Err (mistake_at more misfit.NotUnderstood)

-- The request of a command and its arguments.
unfoldable pub parsed_command_words : (command : List ℕ) → List (List ℕ)
    → Result RequestedDesign MistakenWord
parsed_command_words command words =
    if bytes_eq command (codes "look") then parsed_review look command words
    else (if bytes_eq command (codes "pass") then parsed_review pass command words
    else (if bytes_eq command (codes "edit") then parsed_design_edit command words
    else (if bytes_eq command (codes "compare") then parsed_compare command words
    else (if bytes_eq command (codes "threads") then parsed_threads words
    else (if bytes_eq command (codes "--help") then parsed_alone help words
    else (if bytes_eq command (codes "--version") then parsed_alone version words
    else Err (mistake_at command misfit.NotACommand)))))))

-- The request of the arguments, or the first that isn't understood. Without arguments there is
-- neither.
abbrev pub parsed_design_words : List (List ℕ) → Result RequestedDesign (Option MistakenWord)
parsed_design_words [] = Err None
parsed_design_words (command ∷ words) = with_some_mistake (parsed_command_words command words)
