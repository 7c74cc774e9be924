-- From the records of a file to commands, in any format. A record may have several commands. Each
-- command is checked for its range first, and then for the number of commands before it. `at` is
-- the record's offset, and `count` is the number of commands before.
use Rattle.std.specs.Prelude.{ℕ, ◌+◌, Bool, not, List, [], ◌∷◌, ◌++◌, Result, Ok, Err, nat_le, if◌then◌else◌}
use Rattle.design_model.specs.declared.command.Command.{Command}
use Rattle.design_model.specs.declared.design.TheConstants.{MAX_COMMANDS}
use Rattle.design_model.specs.Commands.{is_command_in_range}
use Rattle.format_traits.specs.declared.fault.ReadFault.{ReadFault}
use Rattle.format_traits.specs.declared.fault.ReadFault.TheVariants as fault
use Rattle.format_traits.specs.declared.loaded.Loaded.{Loaded}

-- The commands of a file's records, and whether the file has an end.
pub record FileCommands : Type 0 where
  pub commands : List Command
  pub ended : Bool

-- A result with more commands before its own; a refusal stays.
abbrev pub with_commands_before : List Command → Result FileCommands ReadFault
    → Result FileCommands ReadFault
with_commands_before before (Ok course) =
    Ok (record { commands = before ++ course.commands; ended = course.ended })
with_commands_before before (Err f) = Err f

-- A command followed by the result of the rest, or the command's refusal.
abbrev pub checked_command : ℕ → ℕ → Command → Result FileCommands ReadFault
    → Result FileCommands ReadFault
checked_command at count command rest =
    if not (is_command_in_range command) then Err (fault.Range at)
    else (if nat_le MAX_COMMANDS count then Err (fault.TooMany at)
    else with_commands_before (command ∷ []) rest)

-- The commands of one record, each checked in order, followed by the result of the rest.
abbrev pub checked_commands : ℕ → ℕ → List Command → Result FileCommands ReadFault
    → Result FileCommands ReadFault
checked_commands at count [] rest = rest
checked_commands at count (command ∷ more) rest = checked_command at count command
    (checked_commands at (count + 1) more rest)

-- The loaded design: the label, the threads and the commands of a file, or the refusal.
abbrev pub loaded_with : List ℕ → List ℕ → Result FileCommands ReadFault → Result Loaded ReadFault
loaded_with label threads (Ok course) = Ok (record {
  design = record { label = label; threads = threads; commands = course.commands };
  ended = course.ended;
})
loaded_with label threads (Err f) = Err f
