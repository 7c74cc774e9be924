use Rattle.thumbnails.proofs.RedrawingLemmas.{not_read}
use Rattle.thumbnails.proofs.theorems.thumbnails_are_not_read.Goals as goal

pub returns : goal.returns
returns c = not_read c.written_reads_again.ensures.pec c.written_reads_again.ensures.pes c.accepted_designs_are_small.ensures
