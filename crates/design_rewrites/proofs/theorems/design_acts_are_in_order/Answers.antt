use Rattle.std.proofs.Common.{true, false}
use Rattle.design_rewrites.proofs.OrderLemmas.{acts_in_order}
use Rattle.design_rewrites.proofs.theorems.design_acts_are_in_order.Goals as goal

pub returns : goal.returns
returns c = λ d. acts_in_order 1 true false d.commands
