use Rattle.stitch_text.proofs.RoundTrip.{list_is_codec}
use Rattle.stitch_text.proofs.Names.{list_meaning, list_write_limits, list_of}
use Rattle.stitch_text.proofs.theorems.written_reads_again.Goals as goal

pub returns : goal.returns
returns c = c.codecs_keep_the_laws.ensures list_meaning list_write_limits list_of (list_is_codec c.accepted_designs_are_small.ensures)
