use Rattle.std.proofs.Common.{replicate}
use Rattle.design_model.specs.declared.act.Act.TheVariants as act
use Rattle.route_verdict.proofs.ActOrderLemmas.{GoesOn}
use Rattle.route_verdict.proofs.act_order.pass_stops.Given as goal

-- the stops so far are there
abbrev pub invariant-loop-left : goal.invariant-loop-left
invariant-loop-left l = GoesOn l.acts l.at (replicate l.count act.Stop) l.next (replicate l.left act.Stop)

abbrev pub decreases-loop-left : goal.decreases-loop-left
decreases-loop-left l = l.left
