use Rattle.dst_codec.proofs.laws.Label.{label_reads_again}
use Rattle.dst_codec.proofs.theorems.label_round_trips.Goals as goal

pub returns : goal.returns
returns c = label_reads_again c.accepted_designs_are_small.ensures c.encoded_acts_round_trip.ensures
    c.label_fields_round_trip.ensures
