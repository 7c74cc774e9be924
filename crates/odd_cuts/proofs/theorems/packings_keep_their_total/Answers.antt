use Rattle.odd_cuts.proofs.Totals.{keeps_total}
use Rattle.odd_cuts.proofs.theorems.packings_keep_their_total.Goals as goal

pub returns : goal.returns
returns c = keeps_total
