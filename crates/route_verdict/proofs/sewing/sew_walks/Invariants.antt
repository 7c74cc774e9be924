use Rattle.std.proofs.Common.{length}
use Rattle.route_verdict.proofs.SewLemmas.{Left}
use Rattle.route_verdict.proofs.sewing.sew_walks.Given as goal

abbrev pub invariant-loop-piece : goal.invariant-loop-piece
invariant-loop-piece l = Left l.d l.pieces l.fn.design l.design l.before l.rest

abbrev pub decreases-loop-piece : goal.decreases-loop-piece
decreases-loop-piece l = length l.rest
