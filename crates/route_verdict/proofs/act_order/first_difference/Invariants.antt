use Rattle.std.proofs.Common.{length}
use Rattle.route_verdict.proofs.ActOrderLemmas.{LeftRuns}
use Rattle.route_verdict.proofs.act_order.first_difference.Given as goal

-- the walks so far are sewn
abbrev pub invariant-loop-cert : goal.invariant-loop-cert
invariant-loop-cert l = LeftRuns l.d l.acts l.certs l.at l.before l.rest

abbrev pub decreases-loop-cert : goal.decreases-loop-cert
decreases-loop-cert l = length l.rest
