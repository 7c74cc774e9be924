use Rattle.design_edits.proofs.LawLemmas.{four_quarters}
use Rattle.design_edits.proofs.inverses.four_quarter_turns_restore.Goals as goal

pub returns : goal.returns
returns c = four_quarters
