use Rattle.format_traits.proofs.LawLemmas.{accepted_is_small}
use Rattle.format_traits.proofs.theorems.accepted_designs_are_small.Goals as goal

pub returns : goal.returns
returns c = accepted_is_small
