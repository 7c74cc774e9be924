-- What the results of changes exclude.
use Rattle.std.proofs.Common.{◌≡◌, ℕ, List, [], ◌∷◌, Result, Ok, Err, ⊎_elim}
use Rattle.command_words.specs.Changes.{Change, cut, split, thread}
use Rattle.design_model.specs.declared.command.Command.TheVariants.{Stitch}
use Rattle.design_model.specs.Designs.{DesignValue, empty_design}
use Rattle.design_model.specs.Points.{origin}
use Rattle.step_splitter.specs.declared.refitting.RefitFault.TheVariants as fault
use Rattle.step_splitter.specs.declared.refitting.RefitMode.{RefitMode}
use Rattle.step_splitter.specs.declared.refitting.RefitMode.TheVariants as mode
use Rattle.step_splitter.specs.Refits.{Refits}
use Rattle.stitch_cli.specs.declared.change_faults.ChangeFailure.TheVariants as failure
use Rattle.stitch_cli.specs.declared.change_faults.ChangeFault.{ChangeFault}
use Rattle.stitch_cli.specs.declared.change_faults.ChangeFault.TheVariants as reason
use Rattle.stitch_cli.specs.AppliedChanges.{IsChangesResult}
use Rattle.stitch_cli.specs.ChangedDesigns.{Becomes, BecomesAll, RefitsTo}

-- a refit is refused for too many commands alone
pub known_refit : (m : RefitMode) (limit n k : ℕ) (d : DesignValue) → (RefitsTo m limit d (Err (reason.MovedOut n)) → ⊥)
    × (RefitsTo m limit d (Err (reason.NoPlace n k)) → ⊥)
    × (RefitsTo m limit d (Err (reason.RefitTooMany n)) → Refits m limit d (Err (fault.TooMany n)))
known_refit m limit n k d = (λ is. is, λ is. is, λ is. is)

pub known_modes : (limit : ℕ) (d new : DesignValue) → (Becomes limit split d (Ok new) → Refits mode.Split limit d (Ok new))
    × (Becomes limit cut d (Ok new) → Refits mode.Cut limit d (Ok new))
known_modes limit d new = (λ is. is, λ is. is)

-- no change leaves a design as it is
pub known_none : (limit : ℕ) (d : DesignValue) (r : Result DesignValue ChangeFault) → BecomesAll limit [] d r → r ≡ Ok d
known_none limit d r is = is

-- a thread of a block that isn't there is refused, whatever changes follow
abbrev one_block : DesignValue
one_block = record empty_design { commands = Stitch origin ∷ [] }

not_ok : (new : DesignValue) (why : ChangeFault) → ◌≡◌ {A = Result DesignValue ChangeFault} (Ok new) (Err why) → ⊥
not_ok new why is = cc

pub known_refused : (later : List Change) (new : DesignValue) → BecomesAll 121 (thread 2 9 ∷ later) one_block (Ok new) → ⊥
known_refused later new is = ⊎_elim (λ done. not_ok done.0 (reason.NoPlace 2 1) done.1) (λ fails. not_ok new fails.0 fails.2) is

-- the result of all changes is the changed design, or the fault
pub known_changed : (limit : ℕ) (changes : List Change) (d new : DesignValue) → IsChangesResult limit changes d (Ok new)
    → BecomesAll limit changes d (Ok new)
known_changed limit changes d new is = is

pub known_failure : (limit : ℕ) (changes : List Change) (d : DesignValue) (why : ChangeFault)
    → IsChangesResult limit changes d (Err (failure.Refused why))
    → BecomesAll limit changes d (Err why)
known_failure limit changes d why is = is
