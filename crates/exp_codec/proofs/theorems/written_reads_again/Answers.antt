use Rattle.exp_codec.proofs.RoundTrip.{exp_is_codec}
use Rattle.exp_codec.proofs.Names.{exp_meaning, exp_write_limits, exp_file_of}
use Rattle.exp_codec.proofs.theorems.written_reads_again.Goals as goal

pub returns : goal.returns
returns c = c.codecs_keep_the_laws.ensures exp_meaning exp_write_limits exp_file_of (exp_is_codec c.encoded_acts_round_trip.ensures)
