use Rattle.thumbnails.proofs.TailLemmas.{tails}
use Rattle.thumbnails.proofs.theorems.tails_are_not_read.Goals as goal

pub returns : goal.returns
returns c = tails
