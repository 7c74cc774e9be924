use Rattle.design_edits.proofs.LawLemmas.{two_mirrorings}
use Rattle.design_edits.proofs.inverses.two_mirrorings_restore.Goals as goal

pub returns : goal.returns
returns c = two_mirrorings
