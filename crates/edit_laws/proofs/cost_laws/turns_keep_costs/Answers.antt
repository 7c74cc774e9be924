use Rattle.edit_laws.proofs.TurnLemmas.{turn_costs}
use Rattle.edit_laws.proofs.cost_laws.turns_keep_costs.Goals as goal

pub returns : goal.returns
returns c = turn_costs
