use Rattle.dst_codec.proofs.Names.{acts_of, dst_meaning, dst_write_limits, dst_file_of}
use Rattle.dst_codec.proofs.laws.Again.{dst_is_codec}
use Rattle.dst_codec.proofs.theorems.written_reads_again.Goals as goal

pub returns : goal.returns
returns c = c.codecs_keep_the_laws.ensures dst_meaning dst_write_limits (λ d. dst_file_of d.label (acts_of d))
    (dst_is_codec c.accepted_designs_are_small.ensures c.encoded_acts_round_trip.ensures)
