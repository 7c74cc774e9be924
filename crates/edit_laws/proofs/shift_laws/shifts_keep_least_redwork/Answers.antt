use Rattle.edit_laws.proofs.ShiftLemmas.{redwork_moved}
use Rattle.edit_laws.proofs.shift_laws.shifts_keep_least_redwork.Goals as goal

pub returns : goal.returns
returns c = redwork_moved
