use Rattle.std.proofs.Common.{false, length, map}
use Rattle.design_model.specs.declared.act.Act.TheVariants as act
use Rattle.route_verdict.proofs.ActOrderLemmas.{GoesOn}
use Rattle.route_verdict.proofs.act_order.after_needles.Given as goal

-- the needles so far are there
abbrev pub invariant-loop-point : goal.invariant-loop-point
invariant-loop-point l = GoesOn l.acts l.at (map (λ p. act.Needle p false) l.points) l.next (map (λ p. act.Needle p false) l.rest)

abbrev pub decreases-loop-point : goal.decreases-loop-point
decreases-loop-point l = length l.rest
