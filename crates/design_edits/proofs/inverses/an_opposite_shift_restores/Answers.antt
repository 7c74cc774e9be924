use Rattle.design_edits.proofs.LawLemmas.{opposite_shift}
use Rattle.design_edits.proofs.inverses.an_opposite_shift_restores.Goals as goal

pub returns : goal.returns
returns c = opposite_shift
