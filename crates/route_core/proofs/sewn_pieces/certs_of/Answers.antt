use Rattle.std.proofs.lemmas.List.{nil_from_length}
use Rattle.route_core.proofs.RouteLemmas.{all_made}
use Rattle.route_core.proofs.sewn_pieces.certs_of.Goals as goal

pub returns : goal.returns
returns c =
    all_made c.args.way c.args.pieces.now c.loop-piece.rest.now c.loop-piece.certs
    (nil_from_length _ c.in_default.ensures.cases) c.loop-piece.invariant
