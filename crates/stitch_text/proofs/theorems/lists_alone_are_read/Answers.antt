use Rattle.stitch_text.proofs.CanonicalText.{reads_where_written}
use Rattle.stitch_text.proofs.theorems.lists_alone_are_read.Goals as goal

pub returns : goal.returns
returns c = reads_where_written c.written_reads_again.ensures
