-- The state of a refit between two acts. Only clauses inside this crate cite this file.
use Rattle.std.specs.Prelude.{◌≡◌, ℕ, ◌+◌, ◌<◌, ◌≤◌, Bool, List, ◌++◌, length, Result, Ok, Err}
use Rattle.design_model.specs.declared.act.NumberedAct.{NumberedAct}
use Rattle.design_model.specs.declared.command.Command.{Command}
use Rattle.design_model.specs.declared.design.TheConstants.{MAX_COMMANDS}
use Rattle.design_model.specs.declared.point.Point.{Point}
use Rattle.design_model.specs.Acts.{acts_without_numbers}
use Rattle.design_model.specs.Designs.{DesignValue}
use Rattle.design_model.specs.LongerDesigns.{with_commands}
use Rattle.step_splitter.specs.declared.refitting.RefitFault.{RefitFault}
use Rattle.step_splitter.specs.declared.refitting.RefitFault.TheVariants as fault
use Rattle.step_splitter.specs.declared.refitting.RefitMode.{RefitMode}
use Rattle.step_splitter.specs.Refits.{refitted_acts, refitted_commands, refitted_from, IsFirstOverLimit}

-- A call adds the commands of one act to a design. The fault `TooMany` has the number of the act
-- with which the design would have too many commands.
abbrev pub AddsRefitCommands : {T : Type 0} → ℕ → List Command → DesignValue → Result T RefitFault
    → DesignValue
    → Type 0
AddsRefitCommands number commands old (Ok _) new =
    (length old.commands + length commands ≤ MAX_COMMANDS) × (new ≡ with_commands old commands)
AddsRefitCommands number commands old (Err (fault.TooMany n)) new =
    (n ≡ number) × (MAX_COMMANDS < length old.commands + length commands)
AddsRefitCommands number commands old (Err fault.Memory) new = Unit {0}

-- A refit after some acts of a design. The output has the commands of these acts, and the acts left
-- are refitted from the current state of the thread and the current needle point.
pub record IsRefitState (m : RefitMode) (limit : ℕ) (acts : List NumberedAct) (out : List Command)
    (loose : Bool)
    (place : Point) (left : List NumberedAct) : Type 0 where
  pub before : List NumberedAct
  pub parts : acts ≡ before ++ left
  pub commands : out ≡ refitted_commands m limit before
  pub more : (rest : List NumberedAct)
      → refitted_acts m limit (acts_without_numbers (before ++ rest))
      ≡ refitted_acts m limit (acts_without_numbers before)
      ++ refitted_from m limit loose place (acts_without_numbers rest)

-- The meaning of a fault of a refit: `TooMany` at the first act with a command too many, or out of
-- memory.
abbrev pub RefuseActs : RefitMode → ℕ → List NumberedAct → RefitFault → Type 0
RefuseActs m limit acts (fault.TooMany number) =
    (MAX_COMMANDS < length (refitted_commands m limit acts)) × IsFirstOverLimit m limit acts number
RefuseActs m limit acts fault.Memory = Unit {0}

-- A call adds the commands of all refitted acts to a design without commands, or fails with its
-- first fault.
abbrev pub RefitsAll : {T : Type 0} → RefitMode → ℕ → List NumberedAct → DesignValue
    → Result T RefitFault
    → DesignValue → Type 0
RefitsAll m limit acts old (Ok _) new = (length (refitted_commands m limit acts) ≤ MAX_COMMANDS)
    × (new ≡ record old { commands = refitted_commands m limit acts })
RefitsAll m limit acts old (Err fault) new = RefuseActs m limit acts fault
