-- The result of adding scaled commands to a design. No public clause refers to this file.
use Rattle.std.specs.Prelude.{◌≡◌, List, None, Some, Result, Ok, Err, map, ℕ}
use Rattle.design_edits.specs.Moves.{first_out_of_range, with_mapped_point}
use Rattle.design_model.specs.declared.command.Command.{Command}
use Rattle.design_model.specs.Designs.{DesignValue}
use Rattle.sewing_edits.specs.declared.scales.ScaleFault.{ScaleFault}
use Rattle.sewing_edits.specs.declared.scales.ScaleFault.TheVariants as fault
use Rattle.sewing_edits.specs.Scales.{scale_point}

-- The scaled commands.
abbrev pub scaled_commands : ℕ → List Command → List Command
scaled_commands percent commands = map (with_mapped_point (scale_point percent)) commands

-- A call adds scaled commands to a design without commands, or reports the first one out of range.
abbrev pub ScalesCommands : {T : Type 0} → ℕ → List Command → DesignValue → Result T ScaleFault
    → DesignValue → Type 0
ScalesCommands percent commands old (Ok _) new =
    (first_out_of_range (scaled_commands percent commands) ≡ None)
    × (new ≡ record old { commands = scaled_commands percent commands })
ScalesCommands percent commands old (Err (fault.Range number)) new =
    first_out_of_range (scaled_commands percent commands) ≡ Some number
ScalesCommands percent commands old (Err fault.Memory) new = Unit {0}
