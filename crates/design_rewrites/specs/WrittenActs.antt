-- Commands that are added to a design while further ones are still to come. Only the loop and the
-- edits cite this file.
use Rattle.std.specs.Prelude.{◌≡◌, ◌<◌, List, length, IsTrue, Result, Ok, Err}
use Rattle.std.specs.List.{list_all}
use Rattle.design_model.specs.declared.act.Act.{Act}
use Rattle.design_model.specs.declared.act.NumberedAct.{NumberedAct}
use Rattle.design_model.specs.declared.command.Command.{Command}
use Rattle.design_model.specs.declared.design.TheConstants.{MAX_COMMANDS}
use Rattle.design_model.specs.ActPositions.{is_act_in_range}
use Rattle.design_model.specs.Designs.{DesignValue}
use Rattle.design_model.specs.LongerDesigns.{with_commands}
use Rattle.design_rewrites.specs.declared.rewrite_fault.RewriteFault.{RewriteFault}
use Rattle.design_rewrites.specs.declared.rewrite_fault.RewriteFault.TheVariants as fault
use Rattle.step_splitter.specs.Refits.{commands_of_acts}

-- Acts whose points are in the range of a needle.
abbrev pub AreActsInRange : List NumberedAct → Type 0
AreActsInRange acts = IsTrue (list_all (λ a. is_act_in_range a.act) acts)

-- A call adds commands to a design, after which `after` is still to come where `before` was.
abbrev pub WritesCommands : {T : Type 0} → (before after : List Command) → DesignValue
    → Result T RewriteFault → DesignValue → Type 0
WritesCommands before after old (Ok _) new = with_commands old before ≡ with_commands new after
WritesCommands before after old (Err fault.TooMany) new =
    MAX_COMMANDS < length (with_commands old before).commands
WritesCommands before after old (Err fault.Memory) new = Unit {0}

-- A design with the commands of further acts at the end.
unfoldable pub design_after_acts : DesignValue → List Act → DesignValue
design_after_acts d acts = with_commands d (commands_of_acts acts)

-- A call adds acts to a design, after which `after` is still to come where `before` was. With
-- `TooMany` the design with those before has more commands than it may have.
abbrev pub WritesActs : {T : Type 0} → (before after : List Act) → DesignValue
    → Result T RewriteFault → DesignValue → Type 0
WritesActs before after old (Ok _) new = design_after_acts old before ≡ design_after_acts new after
WritesActs before after old (Err fault.TooMany) new =
    MAX_COMMANDS < length (design_after_acts old before).commands
WritesActs before after old (Err fault.Memory) new = Unit {0}
