use Rattle.edit_laws.proofs.TurnLemmas.{mirror_costs}
use Rattle.edit_laws.proofs.cost_laws.mirrorings_keep_costs.Goals as goal

pub returns : goal.returns
returns c = mirror_costs
