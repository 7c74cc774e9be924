-- The results of all changes of a design.
use Rattle.std.specs.Prelude.{ℕ, List, [], map, Result, Ok, Err, string_bytes, unwrap_or}
use Rattle.command_words.specs.Changes.{Change}
use Rattle.command_words.specs.ValidRequests.{AreEdits}
use Rattle.command_words.specs.Arguments.{parsed_edits}
use Rattle.command_words.specs.RefitFlags.{refit_changes}
use Rattle.design_model.specs.Designs.{DesignValue}
use Rattle.stitch_cli.specs.declared.change_faults.ChangeFailure.{ChangeFailure}
use Rattle.stitch_cli.specs.declared.change_faults.ChangeFailure.TheVariants as change_failure
use Rattle.stitch_cli.specs.declared.changes.Changes.{Changes}
use Rattle.stitch_cli.specs.declared.changes.Changes.TheVariants as changes
use Rattle.stitch_cli.specs.ChangedDesigns.{BecomesAll}

-- Valid changes: the arguments of edits are edits.
abbrev pub AreValidChanges : Changes → Type 0
AreValidChanges (changes.Refits splits cuts) = Unit {0}
AreValidChanges (changes.Edits words) = AreEdits (map (λ word. string_bytes word) words.now)

-- The list of requested changes, in order.
abbrev pub change_list : Changes → List Change
change_list (changes.Refits splits cuts) = refit_changes splits cuts
change_list (changes.Edits words) =
    unwrap_or (parsed_edits (map (λ word. string_bytes word) words.now)) []

-- The result of changing a design: the changed design, a fault, or out of memory.
abbrev pub IsChangesResult : ℕ → List Change → DesignValue → Result DesignValue ChangeFailure
    → Type 0
IsChangesResult limit changes d (Ok changed) = BecomesAll limit changes d (Ok changed)
IsChangesResult limit changes d (Err (change_failure.Refused fault)) = BecomesAll limit changes d
    (Err fault)
IsChangesResult limit changes d (Err change_failure.Memory) = Unit {0}
