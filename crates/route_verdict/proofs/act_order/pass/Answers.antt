use Rattle.std.proofs.Common.{sym, ◌∙◌}
use Rattle.route_verdict.proofs.ActOrderLemmas.{begins}
use Rattle.route_verdict.proofs.act_order.pass.Goals as goal

pub returns-then-has_act : goal.returns-then-has_act
returns-then-has_act c = begins c.args.acts.now c.args.at c.args.expected (sym c.has_act.ensures ∙ c.if-has_act.true)
