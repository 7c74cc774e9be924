use Rattle.blossom_match.proofs.LeastLemmas.{none_cheaper}
use Rattle.blossom_match.proofs.theorems.none_costs_less.Goals as goal

pub returns : goal.returns
returns c = none_cheaper
