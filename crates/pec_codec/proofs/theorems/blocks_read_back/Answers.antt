use Rattle.pec_codec.proofs.BlockRoundTrip.{blocks_keep_laws}
use Rattle.pec_codec.proofs.theorems.blocks_read_back.Goals as goal

pub returns : goal.returns
returns c = blocks_keep_laws c.encoded_acts_round_trip.ensures c.accepted_designs_are_small.ensures
    c.codecs_keep_the_laws.ensures c.label_fields_round_trip.ensures
