use Rattle.dst_codec.proofs.OneEncodingLemmas.{same_record}
use Rattle.dst_codec.proofs.theorems.moves_have_one_encoding.Goals as goal

pub returns : goal.returns
returns c = same_record
