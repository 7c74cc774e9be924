use Rattle.std.proofs.Common.{true}
use Rattle.design_rewrites.proofs.OrderLemmas.{acts_again}
use Rattle.design_rewrites.proofs.theorems.acts_of_commands_stay.Goals as goal

pub returns : goal.returns
returns c = λ d acts ordered. acts_again 1 true acts ordered
