use Rattle.std.proofs.Common.{sym}
use Rattle.route_verdict.proofs.ActOrderLemmas.{more_left}
use Rattle.route_verdict.proofs.act_order.end_of_acts.Goals as goal

pub returns-then-at-acts : goal.returns-then-at-acts
returns-then-at-acts c = sym (more_left c.args.acts.now c.args.at c.if-at-acts.true)
