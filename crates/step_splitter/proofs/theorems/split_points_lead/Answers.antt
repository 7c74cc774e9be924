use Rattle.step_splitter.proofs.ChainLemmas.{leads}
use Rattle.step_splitter.proofs.theorems.split_points_lead.Goals as goal

pub returns : goal.returns
returns c = leads
