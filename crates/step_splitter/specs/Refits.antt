-- Refits: designs whose acts are changed to suit a format. A refit splits long stitches or replaces
-- floats by trims. The limit is the longest stitch on each axis, in whole tenths of a millimetre.
-- Own rules.
use Rattle.std.specs.Prelude.{◌≡◌, ℕ, ◌<◌, ◌≤◌, Bool, true, false, not, ◌&&◌, ◌||◌, IsTrue, List, [], ◌∷◌, ◌++◌, length, map, Result, Ok, Err, if◌then◌else◌}
use Rattle.std.specs.List.{list_all}
use Rattle.design_model.specs.declared.act.Act.{Act}
use Rattle.design_model.specs.declared.act.Act.TheVariants as act
use Rattle.design_model.specs.declared.act.NumberedAct.{NumberedAct}
use Rattle.design_model.specs.declared.command.Command.{Command}
use Rattle.design_model.specs.declared.command.Command.TheVariants as command
use Rattle.design_model.specs.declared.design.TheConstants.{MAX_COMMANDS}
use Rattle.design_model.specs.declared.point.Point.{Point}
use Rattle.design_model.specs.ActPositions.{leaves_thread_loose, needle_position_after}
use Rattle.design_model.specs.Acts.{acts_of, acts_without_numbers}
use Rattle.design_model.specs.Designs.{DesignValue}
use Rattle.design_model.specs.Points.{is_point_within, move_between, origin}
use Rattle.step_splitter.specs.declared.refitting.RefitFault.{RefitFault}
use Rattle.step_splitter.specs.declared.refitting.RefitFault.TheVariants as fault
use Rattle.step_splitter.specs.declared.refitting.RefitMode.{RefitMode}
use Rattle.step_splitter.specs.declared.refitting.RefitMode.TheVariants as mode
use Rattle.step_splitter.specs.Steps.{split_points}

-- Two points are farther apart than the limit, on some axis.
abbrev pub is_beyond_limit : ℕ → Point → Point → Bool
is_beyond_limit limit p q = not (is_point_within limit (move_between p q))

-- Needle acts at the given points, none of them a float.
abbrev pub needles_at : List Point → List Act
needles_at points = map (λ p. act.Needle p false) points

-- The acts for one needle act, where long stitches are split. A stitch longer than the limit
-- becomes several steps. A needle act after a trim or stop, and a float, stay.
abbrev pub split_needle : ℕ → Bool → Point → Point → Bool → List Act
split_needle limit loose place p true = act.Needle p true ∷ []
split_needle limit loose place p false =
    if not loose && is_beyond_limit limit place p then needles_at (split_points place p limit)
    else act.Needle p false ∷ []

-- The acts for one needle act, where floats are replaced: a float becomes a trim and a needle act.
abbrev pub cut_needle : Point → Bool → List Act
cut_needle p true = act.Trim ∷ act.Needle p false ∷ []
cut_needle p false = act.Needle p false ∷ []

-- The acts for one needle act in the given mode. The thread is loose (after a trim or a stop) or
-- not, and the needle act before was at the given place.
abbrev pub refitted_needle : RefitMode → ℕ → Bool → Point → Point → Bool → List Act
refitted_needle mode.Split limit loose place p float = split_needle limit loose place p float
refitted_needle mode.Cut limit loose place p float = cut_needle p float

-- The acts for one act in the given mode.
abbrev pub refitted_act : RefitMode → ℕ → Bool → Point → Act → List Act
refitted_act m limit loose place (act.Needle p float) = refitted_needle m limit loose place p float
refitted_act m limit loose place act.Trim = act.Trim ∷ []
refitted_act m limit loose place act.Stop = act.Stop ∷ []

-- The acts for a list of acts, from the given state of the thread and the given place on.
abbrev pub refitted_from : RefitMode → ℕ → Bool → Point → List Act → List Act
refitted_from m limit loose place [] = []
refitted_from m limit loose place (a ∷ rest) = refitted_act m limit loose place a
    ++ refitted_from m limit (leaves_thread_loose a) (needle_position_after place a) rest

-- The acts of a refitted design, for the acts of the design.
abbrev pub refitted_acts : RefitMode → ℕ → List Act → List Act
refitted_acts m limit acts = refitted_from m limit true origin acts

-- A needle act that is neither loose nor a float is within the limit of the one before.
abbrev pub is_near_act : ℕ → Bool → Point → Act → Bool
is_near_act limit loose place (act.Needle p true) = true
is_near_act limit loose place (act.Needle p false) = loose || is_point_within limit
    (move_between place p)
is_near_act limit loose place act.Trim = true
is_near_act limit loose place act.Stop = true

-- Each needle act of a list that is neither loose nor a float is within the limit of the one
-- before.
abbrev pub AreNearActs : ℕ → Bool → Point → List Act → Type 0
AreNearActs limit loose place [] = Unit {0}
AreNearActs limit loose place (a ∷ rest) =
    IsTrue (is_near_act limit loose place a) × AreNearActs limit (leaves_thread_loose a)
    (needle_position_after place a) rest

-- An act is no float.
abbrev pub is_no_float : Act → Bool
is_no_float (act.Needle p float) = not float
is_no_float act.Trim = true
is_no_float act.Stop = true

-- The purpose of a refit, by its mode: no stitch is longer than the limit, or no act is a float.
abbrev pub MeetsRefitGoal : RefitMode → ℕ → List Act → Type 0
MeetsRefitGoal mode.Split limit acts = AreNearActs limit true origin acts
MeetsRefitGoal mode.Cut limit acts = IsTrue (list_all is_no_float acts)

-- The commands of an act: a jump and a stitch for a float, one command for each other act.
abbrev pub commands_of_act : Act → List Command
commands_of_act (act.Needle p true) = command.Jump p ∷ command.Stitch p ∷ []
commands_of_act (act.Needle p false) = command.Stitch p ∷ []
commands_of_act act.Trim = command.Trim ∷ []
commands_of_act act.Stop = command.Stop ∷ []

-- The commands of a list of acts.
abbrev pub commands_of_acts : List Act → List Command
commands_of_acts [] = []
commands_of_acts (a ∷ rest) = commands_of_act a ++ commands_of_acts rest

-- The commands of a refitted design, for the acts of the design.
abbrev pub refitted_commands : RefitMode → ℕ → List NumberedAct → List Command
refitted_commands m limit acts = commands_of_acts
    (refitted_acts m limit (acts_without_numbers acts))

-- The refitted design: the same design with the commands of its refitted acts.
abbrev pub refitted_design : RefitMode → ℕ → DesignValue → DesignValue
refitted_design m limit d = record d { commands = refitted_commands m limit (acts_of d) }

-- The act of the command with the given number is the first with which a refitted design would have
-- too many commands.
pub record IsFirstOverLimit (m : RefitMode) (limit : ℕ) (acts : List NumberedAct)
    (number : ℕ) : Type 0 where
  pub before : List NumberedAct
  pub act : NumberedAct
  pub after : List NumberedAct
  pub parts : acts ≡ before ++ act ∷ after
  pub numbered : act.number ≡ number
  pub fits : length (refitted_commands m limit before) ≤ MAX_COMMANDS
  pub passes : MAX_COMMANDS < length (refitted_commands m limit (before ++ act ∷ []))

-- The result of a refit: the refitted design, or `TooMany` at the first act with a command too
-- many, or out of memory.
abbrev pub Refits : RefitMode → ℕ → DesignValue → Result DesignValue RefitFault → Type 0
Refits m limit d (Ok refitted) = (length (refitted_commands m limit (acts_of d)) ≤ MAX_COMMANDS)
    × (refitted ≡ refitted_design m limit d)
Refits m limit d (Err (fault.TooMany number)) =
    (MAX_COMMANDS < length (refitted_commands m limit (acts_of d)))
    × IsFirstOverLimit m limit (acts_of d) number
Refits m limit d (Err fault.Memory) = Unit {0}
