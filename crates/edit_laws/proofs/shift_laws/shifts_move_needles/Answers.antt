use Rattle.edit_laws.proofs.ShiftLemmas.{needles_moved}
use Rattle.edit_laws.proofs.shift_laws.shifts_move_needles.Goals as goal

pub returns : goal.returns
returns c = needles_moved
