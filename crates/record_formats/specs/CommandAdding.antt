-- Adding the commands of one record to a design that is being read.
use Rattle.std.specs.Prelude.{◌≡◌, ◌+◌, ◌≤◌, List, ◌++◌, length, Result, Ok, Err, IsTrue, ℕ}
use Rattle.std.specs.List.{list_all}
use Rattle.design_model.specs.declared.command.Command.{Command}
use Rattle.design_model.specs.declared.design.TheConstants.{MAX_COMMANDS}
use Rattle.design_model.specs.Commands.{is_command_in_range}
use Rattle.design_model.specs.Designs.{DesignValue}
use Rattle.design_model.specs.LongerDesigns.{with_commands}
use Rattle.design_model.specs.OutOfMemory.{UnlessOutOfMemory}
use Rattle.format_traits.specs.declared.fault.ReadFault.{ReadFault}
use Rattle.format_traits.specs.Faults.{read_is_out_of_memory}
use Rattle.record_formats.specs.Readings.{FileCommands, checked_commands}
use Rattle.record_formats.specs.Records.{accepted_commands}

-- Two designs with the same label and the same threads.
pub record SameButCommands (old new : DesignValue) : Type 0 where
  pub label : new.label ≡ old.label
  pub threads : new.threads ≡ old.threads

-- The commands are in range, and the design has room for them.
abbrev pub FitInDesign : List Command → DesignValue → Type 0
FitInDesign commands d = IsTrue (list_all is_command_in_range commands)
    × (length d.commands + length commands ≤ MAX_COMMANDS)

-- One of the commands of the record at an offset is refused with the fault `f`, and the commands
-- before it are added.
pub record RefusesCommands (at : ℕ) (commands : List Command) (old : DesignValue) (f : ReadFault)
    (new : DesignValue) : Type 0 where
  pub is : (rest : Result FileCommands ReadFault)
      → checked_commands at (length old.commands) commands rest ≡ Err f
  pub kept : (rest : List Command)
      → new.commands ≡ old.commands ++ accepted_commands (length old.commands) commands rest

-- Meaning of each answer: the record's commands are added, or one of them is refused, or memory ran
-- out.
abbrev pub AddsCommands : {T : Type 0} → ℕ → List Command → DesignValue → Result T ReadFault
    → DesignValue
    → Type 0
AddsCommands at commands old (Ok _) new = FitInDesign commands old
    × (new ≡ with_commands old commands)
AddsCommands at commands old (Err f) new = UnlessOutOfMemory (read_is_out_of_memory f)
    (RefusesCommands at commands old f new)
