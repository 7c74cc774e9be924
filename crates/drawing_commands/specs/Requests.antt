-- What the arguments of stitch_drawing request, a command and its arguments; or the first that
-- isn't understood.
use Rattle.std.specs.Prelude.{ℕ, ◌≤◌, List, [], ◌∷◌, Option, None, IsSome, Result, Ok, Err, bytes_eq, codes, length, map, string_bytes, if◌then◌else◌}
use Rattle.program_texts.specs.MistakenWords.{MistakenWord, then_with, with_some_mistake}
use Rattle.program_texts.specs.CompanionUsage.{version_line}
use Rattle.command_words.specs.declared.names.FileNames.{FileNames}
use Rattle.command_words.specs.ValidNames.{AreFileNames}
use Rattle.outside_io.specs.Files.{IsFileName}
use Rattle.drawing_commands.specs.declared.mistake.Misfit.TheVariants as misfit
use Rattle.drawing_commands.specs.declared.requests.DrawingRequest.{DrawingRequest}
use Rattle.drawing_commands.specs.declared.requests.TheConstants.{MAX_GAP}
use Rattle.drawing_commands.specs.declared.requests.DrawingRequest.TheVariants as request
use Rattle.drawing_commands.specs.DrawingEditing.{DrawingEditOrder, drawing_edit_order}
use Rattle.drawing_commands.specs.DrawingEditWords.{drawing_edits_of, first_mistaken_edit, parsed_drawing_edits}
use Rattle.drawing_commands.specs.FreeOrders.{FreeOrder, free_order}
use Rattle.drawing_commands.specs.Looks.{LookOrder, look_order}
use Rattle.drawing_commands.specs.MeetOrders.{MeetOrder, cross_order, snap_order}
use Rattle.drawing_commands.specs.Mistakes.{mistake_at, unless_mistaken}
use Rattle.drawing_commands.specs.Names.{gap_or_mistake, name_or_mistake, nothing_after, parsed_gap, parsed_keep, parsed_names}
use Rattle.drawing_commands.specs.NearFiles.{NearFileOrder, near_file_order}
use Rattle.drawing_commands.specs.SpaceOrders.{SpaceOrder, space_order}
use Rattle.drawing_commands.specs.SpaceWords.{no_limits, parsed_spacing}
use Rattle.drawing_commands.specs.Usage.{drawing_program_name, drawing_usage_text}

-- An order, with a case for each command. The last prints a text that depends on no file.
pub data DrawingOrder : Type 0 where
  looking : LookOrder → DrawingOrder
  meeting : MeetOrder → DrawingOrder
  spacing : SpaceOrder → DrawingOrder
  freeing : FreeOrder → DrawingOrder
  nearing : NearFileOrder → DrawingOrder
  editing : DrawingEditOrder → DrawingOrder
  telling : (text : List ℕ) → DrawingOrder

-- The order of a request of the program.
abbrev pub order_of_request : DrawingRequest → DrawingOrder
order_of_request (request.Look file gap) = looking (look_order file.now gap)
order_of_request (request.Snap gap keeps_copies names) =
    meeting (snap_order gap keeps_copies names.input.now names.output.now)
order_of_request (request.Cross keeps_copies names) =
    meeting (cross_order keeps_copies names.input.now names.output.now)
order_of_request (request.Space limits names) =
    spacing (space_order limits names.input.now names.output.now)
order_of_request (request.Free names) = freeing (free_order names.input.now names.output.now)
order_of_request (request.Near names) =
    nearing (near_file_order names.input.now names.output.now)
order_of_request (request.Edit names edits) =
    editing (drawing_edit_order names.input.now names.output.now
    (drawing_edits_of (map (λ word. string_bytes word) edits.now)))
order_of_request request.Help = telling drawing_usage_text
order_of_request request.Version = telling (version_line drawing_program_name)

-- The names of `edit` are file names, and there are edits.
pub record IsEditRequest (names : FileNames) (edits : List (List ℕ)) : Type 0 where
  pub named : AreFileNames names
  pub parsed : IsSome (parsed_drawing_edits edits)
  pub some : 1 ≤ length edits

-- The names of `snap` are file names, and its gap is in range.
pub record IsSnapRequest (names : FileNames) (gap : ℕ) : Type 0 where
  pub named : AreFileNames names
  pub small : gap ≤ MAX_GAP

-- The names of a request are file names, its gap is in range, and its edits are edits.
abbrev pub HasFileNames : DrawingRequest → Type 0
HasFileNames (request.Look file gap) = IsFileName file.now
HasFileNames (request.Snap gap keeps_copies names) = IsSnapRequest names gap
HasFileNames (request.Cross keeps_copies names) = AreFileNames names
HasFileNames (request.Space limits names) = AreFileNames names
HasFileNames (request.Free names) = AreFileNames names
HasFileNames (request.Near names) = AreFileNames names
HasFileNames (request.Edit names edits) =
    IsEditRequest names (map (λ word. string_bytes word) edits.now)
HasFileNames request.Help = Unit {0}
HasFileNames request.Version = Unit {0}

-- The order of `look`.
abbrev pub parsed_look : (command : List ℕ) → List (List ℕ) → Result DrawingOrder MistakenWord
parsed_look command [] = Err (mistake_at command misfit.NoFile)
parsed_look command (file ∷ words) = then_with (name_or_mistake file) (λ name.
    then_with (parsed_gap words) (λ gap. Ok (looking (look_order name gap))))

-- The order of `cross`: two different file names, and whether copies are kept.
abbrev pub parsed_cross : (command : List ℕ) → List (List ℕ) → Result DrawingOrder MistakenWord
parsed_cross command words = then_with (parsed_names command words) (λ named.
    then_with (parsed_keep named.rest) (λ keeps_copies.
    Ok (meeting (cross_order keeps_copies named.input named.output))))

-- The order of `snap`: a gap, two different file names, and whether copies are kept.
abbrev pub parsed_snap : (command : List ℕ) → List (List ℕ) → Result DrawingOrder MistakenWord
parsed_snap command [] = Err (mistake_at command misfit.NoGap)
parsed_snap command (gap ∷ words) = then_with (gap_or_mistake gap) (λ g.
    then_with (parsed_names gap words) (λ named.
    then_with (parsed_keep named.rest) (λ keeps_copies.
    Ok (meeting (snap_order g keeps_copies named.input named.output)))))

-- The order of `space`: two different file names, and what is given of the rule.
abbrev pub parsed_space : (command : List ℕ) → List (List ℕ) → Result DrawingOrder MistakenWord
parsed_space command words = then_with (parsed_names command words) (λ named.
    then_with (parsed_spacing no_limits named.rest) (λ limits.
    Ok (spacing (space_order limits named.input named.output))))

-- The order of `free`: two different file names.
abbrev pub parsed_free : (command : List ℕ) → List (List ℕ) → Result DrawingOrder MistakenWord
parsed_free command words = then_with (parsed_names command words) (λ named.
    nothing_after (freeing (free_order named.input named.output)) named.rest)

-- The order of `near`: two different file names.
abbrev pub parsed_near : (command : List ℕ) → List (List ℕ) → Result DrawingOrder MistakenWord
parsed_near command words = then_with (parsed_names command words) (λ named.
    nothing_after (nearing (near_file_order named.input named.output)) named.rest)

-- The order of `edit` with those names and edits, if each argument is an edit.
abbrev pub edits_parsed : (input output : List ℕ) → List (List ℕ)
    → Result DrawingOrder MistakenWord
edits_parsed input output words = unless_mistaken
    (editing (drawing_edit_order input output (drawing_edits_of words))) (first_mistaken_edit words)

-- The order of `edit` with those names, if there are edits.
abbrev pub edits_after : (input output : List ℕ) → List (List ℕ) → Result DrawingOrder MistakenWord
edits_after input output [] = Err (mistake_at output misfit.NoEdit)
edits_after input output (word ∷ words) = edits_parsed input output (word ∷ words)

-- The order of `edit`: two different file names, and edits.
abbrev pub drawing_edit_parsed : (command : List ℕ) → List (List ℕ)
    → Result DrawingOrder MistakenWord
drawing_edit_parsed command words = then_with (parsed_names command words) (λ named.
    edits_after named.input named.output named.rest)

-- The order of a command and its arguments.
unfoldable pub command_order : (command : List ℕ) → List (List ℕ) → Result DrawingOrder MistakenWord
command_order command words =
    if bytes_eq command (codes "look") then parsed_look command words
    else (if bytes_eq command (codes "snap") then parsed_snap command words
    else (if bytes_eq command (codes "cross") then parsed_cross command words
    else (if bytes_eq command (codes "space") then parsed_space command words
    else (if bytes_eq command (codes "free") then parsed_free command words
    else (if bytes_eq command (codes "near") then parsed_near command words
    else (if bytes_eq command (codes "edit") then drawing_edit_parsed command words
    else (if bytes_eq command (codes "--help") then nothing_after (telling drawing_usage_text) words
    else (if bytes_eq command (codes "--version")
    then nothing_after (telling (version_line drawing_program_name)) words
    else Err (mistake_at command misfit.NotACommand)))))))))

-- The order of the arguments, or the first that isn't understood. Without arguments there is
-- neither.
abbrev pub parsed_drawing_words : List (List ℕ) → Result DrawingOrder (Option MistakenWord)
parsed_drawing_words [] = Err None
parsed_drawing_words (command ∷ words) = with_some_mistake (command_order command words)
