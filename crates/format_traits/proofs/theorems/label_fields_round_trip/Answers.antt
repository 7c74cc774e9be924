use Rattle.format_traits.proofs.LabelLemmas.{label_fields_read_back}
use Rattle.format_traits.proofs.theorems.label_fields_round_trip.Goals as goal

pub returns : goal.returns
returns c = label_fields_read_back
