use Rattle.edit_laws.proofs.ShiftLemmas.{yes_moved}
use Rattle.edit_laws.proofs.shift_laws.shifts_keep_yes.Goals as goal

pub returns : goal.returns
returns c = yes_moved c.yes_is_least_redwork.ensures
