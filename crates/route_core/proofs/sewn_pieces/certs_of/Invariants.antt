use Rattle.std.proofs.Common.{length}
use Rattle.route_core.proofs.RouteLemmas.{LeftPieces}
use Rattle.route_core.proofs.sewn_pieces.certs_of.Given as goal

abbrev pub invariant-loop-piece : goal.invariant-loop-piece
invariant-loop-piece l = LeftPieces l.way l.pieces l.certs l.rest

abbrev pub decreases-loop-piece : goal.decreases-loop-piece
decreases-loop-piece l = length l.rest
