-- The changes of a design between reading and writing, and the faults for which they are refused.
use Rattle.std.specs.Prelude.{◌≡◌, ◌⊎◌, ℕ, ◌-◌, nat_lt, List, [], ◌∷◌, Option, Some, None, Result, Ok, Err, if◌then◌else◌}
use Rattle.command_words.specs.Changes.{Change, cut, move, split, thread}
use Rattle.design_edits.specs.Colours.{colour_place_count, recoloured}
use Rattle.design_edits.specs.declared.motion.Motion.{Motion}
use Rattle.design_edits.specs.declared.motion.Motion.TheVariants as motion
use Rattle.design_edits.specs.Moves.{first_out_of_range, mirrored, shifted, turned}
use Rattle.design_model.specs.Designs.{DesignValue}
use Rattle.step_splitter.specs.declared.refitting.RefitFault.TheVariants as fault
use Rattle.step_splitter.specs.declared.refitting.RefitMode.{RefitMode}
use Rattle.step_splitter.specs.declared.refitting.RefitMode.TheVariants as mode
use Rattle.step_splitter.specs.Refits.{Refits}
use Rattle.stitch_cli.specs.declared.change_faults.ChangeFault.{ChangeFault}
use Rattle.stitch_cli.specs.declared.change_faults.ChangeFault.TheVariants as reason

-- The result of refitting a design to that limit.
abbrev pub RefitsTo : RefitMode → ℕ → DesignValue → Result DesignValue ChangeFault → Type 0
RefitsTo m limit d (Ok refitted) = Refits m limit d (Ok refitted)
RefitsTo m limit d (Err (reason.RefitTooMany number)) =
    Refits m limit d (Err (fault.TooMany number))
RefitsTo m limit d (Err _) = ⊥

-- The shifted design, or a fault for the first command whose point would be out of range.
abbrev pub shifted_if_in_range : Option ℕ → DesignValue → Result DesignValue ChangeFault
shifted_if_in_range None moved = Ok moved
shifted_if_in_range (Some number) moved = Err (reason.MovedOut number)

-- The moved design, or the fault of a shift.
abbrev pub moved : Motion → DesignValue → Result DesignValue ChangeFault
moved (motion.Shift dx dy) d =
    shifted_if_in_range (first_out_of_range (shifted dx dy d).commands) (shifted dx dy d)
moved (motion.Turn quarters) d = Ok (turned quarters d)
moved (motion.Mirror axis) d = Ok (mirrored axis d)

-- The design with another thread for a block, numbered from 1, or a fault if there is no such
-- colour place.
abbrev pub threaded_if_place : ℕ → ℕ → DesignValue → Result DesignValue ChangeFault
threaded_if_place place number d = if nat_lt (place - 1) (colour_place_count d)
    then Ok (recoloured (place - 1) number d) else Err (reason.NoPlace place (colour_place_count d))

-- The result of one change of a design. Refits are to that limit.
abbrev pub Becomes : ℕ → Change → DesignValue → Result DesignValue ChangeFault → Type 0
Becomes limit split d r = RefitsTo mode.Split limit d r
Becomes limit cut d r = RefitsTo mode.Cut limit d r
Becomes limit (move by) d r = r ≡ moved by d
Becomes limit (thread place number) d r = r ≡ threaded_if_place place number d

-- The result of changes in order. The first refused change determines the fault.
abbrev pub BecomesAll : ℕ → List Change → DesignValue → Result DesignValue ChangeFault → Type 0
BecomesAll limit [] d r = r ≡ Ok d
BecomesAll limit (change ∷ later) d r =
    ((mid : DesignValue) × Becomes limit change d (Ok mid) × BecomesAll limit later mid r)
    ⊎ ((why : ChangeFault) × Becomes limit change d (Err why) × (r ≡ Err why))
