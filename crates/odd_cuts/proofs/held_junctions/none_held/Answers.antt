use Rattle.std.proofs.Common.{false}
use Rattle.odd_cuts.proofs.TableLemmas.{blank}
use Rattle.odd_cuts.proofs.held_junctions.none_held.Goals as goal

pub returns : goal.returns
returns c = λ j. blank false 1025 j
