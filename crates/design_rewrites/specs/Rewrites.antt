-- Designs with other acts. The label and the threads stay.
use Rattle.std.specs.Prelude.{◌≡◌, ◌<◌, ◌≤◌, List, length, Result, Ok, Err}
use Rattle.design_model.specs.declared.act.Act.{Act}
use Rattle.design_model.specs.declared.design.TheConstants.{MAX_COMMANDS}
use Rattle.design_model.specs.Designs.{DesignValue}
use Rattle.design_rewrites.specs.declared.rewrite_fault.RewriteFault.{RewriteFault}
use Rattle.design_rewrites.specs.declared.rewrite_fault.RewriteFault.TheVariants as fault
use Rattle.step_splitter.specs.Refits.{commands_of_acts}

-- A design with the commands of the given acts.
abbrev pub design_with_acts : DesignValue → List Act → DesignValue
design_with_acts d acts = record d { commands = commands_of_acts acts }

-- The result of giving a design other acts: the design with them, `TooMany` exactly where they have
-- more commands than a design may have, or out of memory.
abbrev pub IsRewritten : DesignValue → List Act → Result DesignValue RewriteFault → Type 0
IsRewritten d acts (Ok new) =
    (length (commands_of_acts acts) ≤ MAX_COMMANDS) × (new ≡ design_with_acts d acts)
IsRewritten d acts (Err fault.TooMany) = MAX_COMMANDS < length (commands_of_acts acts)
IsRewritten d acts (Err fault.Memory) = Unit {0}
