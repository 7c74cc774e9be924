use Rattle.edit_laws.proofs.MoveLemmas.{moves_exact}
use Rattle.edit_laws.proofs.move_laws.moves_are_exact.Goals as goal

pub returns : goal.returns
returns c = moves_exact c.valid_drawings_are_redrawn.ensures
