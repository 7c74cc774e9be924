-- The commands that read the text of a drawing and write another one, as the program runs them.
use Rattle.std.specs.Prelude.{ℕ, ◌≤◌, List, IsSome, length, map, string_bytes}
use Rattle.program_shell.specs.Plans.{Plan}
use Rattle.drawing_commands.specs.declared.requests.TheConstants.{MAX_GAP}
use Rattle.drawing_commands.specs.declared.text_commands.TextCommand.{TextCommand}
use Rattle.drawing_commands.specs.declared.text_commands.TextCommand.TheVariants as command
use Rattle.drawing_commands.specs.declared.text_reading.TextRead.{TextRead}
use Rattle.drawing_commands.specs.DrawingEditing.{drawing_edit_order, edit_kept}
use Rattle.drawing_commands.specs.DrawingEditWords.{drawing_edits_of, parsed_drawing_edits}
use Rattle.drawing_commands.specs.FreeOrders.{free_kept, free_order}
use Rattle.drawing_commands.specs.MeetOrders.{cross_order, meet_kept, snap_order}
use Rattle.drawing_commands.specs.NearFiles.{near_file_order, near_kept}
use Rattle.drawing_commands.specs.SpaceOrders.{space_kept, space_order}

-- The plan of a command with those names, for a text in which no line would be cut.
abbrev pub kept_plan : TextCommand → (input output : List ℕ) → TextRead → Plan
kept_plan (command.Snap gap keeps_copies) input output =
    meet_kept (snap_order gap keeps_copies input output)
kept_plan (command.Cross keeps_copies) input output =
    meet_kept (cross_order keeps_copies input output)
kept_plan (command.Space limits) input output = space_kept (space_order limits input output)
kept_plan command.Free input output = free_kept (free_order input output)
kept_plan command.Near input output = near_kept (near_file_order input output)
kept_plan (command.Edit edits) input output = edit_kept (drawing_edit_order input output
    (drawing_edits_of (map (λ word. string_bytes word) edits.now)))

-- There are arguments, and each is an edit.
pub record AreEdits (words : List (List ℕ)) : Type 0 where
  pub parsed : IsSome (parsed_drawing_edits words)
  pub some : 1 ≤ length words

-- The gap of a command is in range, and its edits are edits.
abbrev pub HasSoundParts : TextCommand → Type 0
HasSoundParts (command.Snap gap keeps_copies) = gap ≤ MAX_GAP
HasSoundParts (command.Cross keeps_copies) = Unit {0}
HasSoundParts (command.Space limits) = Unit {0}
HasSoundParts command.Free = Unit {0}
HasSoundParts command.Near = Unit {0}
HasSoundParts (command.Edit edits) = AreEdits (map (λ word. string_bytes word) edits.now)
