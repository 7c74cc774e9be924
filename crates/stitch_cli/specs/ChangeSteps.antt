-- The results of one change. No public clause refers to this file.
use Rattle.std.specs.Prelude.{ℕ, Result, Ok, Err}
use Rattle.command_words.specs.Changes.{Change, cut, split}
use Rattle.design_model.specs.Designs.{DesignValue}
use Rattle.step_splitter.specs.declared.refitting.RefitMode.{RefitMode}
use Rattle.step_splitter.specs.declared.refitting.RefitMode.TheVariants as mode
use Rattle.stitch_cli.specs.declared.change_faults.ChangeFault.{ChangeFault}
use Rattle.stitch_cli.specs.ChangedDesigns.{Becomes}

-- The change that a refit is.
abbrev pub refit_change : RefitMode → Change
refit_change mode.Split = split
refit_change mode.Cut = cut

-- The result of one edit of a design in place.
abbrev pub IsEditResult : {T : Type 0} → ℕ → Change → DesignValue → Result T ChangeFault
    → DesignValue
    → Type 0
IsEditResult limit change old (Ok _) new = Becomes limit change old (Ok new)
IsEditResult limit change old (Err why) new = Becomes limit change old (Err why)
