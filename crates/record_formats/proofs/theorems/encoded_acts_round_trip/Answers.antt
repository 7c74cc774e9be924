use Rattle.record_formats.proofs.rereading.Again.{spelled_acts_read_again}
use Rattle.record_formats.proofs.theorems.encoded_acts_round_trip.Goals as goal

pub returns : goal.returns
returns c = spelled_acts_read_again
