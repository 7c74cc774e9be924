use Rattle.dst_codec.proofs.laws.Reach.{read_is_within_reach}
use Rattle.dst_codec.proofs.theorems.read_moves_are_writable.Goals as goal

pub returns : goal.returns
returns c = read_is_within_reach
