use Rattle.std.proofs.Common.{refl}
use Rattle.route_core.proofs.RouteLemmas.{ready}
use Rattle.route_core.proofs.sewn_pieces.sew_pieces.Goals as goal

pub sew-requires-clause-there : goal.sew-requires-clause-there
sew-requires-clause-there c = (ready c.args.way c.args.d.now c.keeps_limits.ensures.limits c.fitting_walks_are_sewable.ensures
    c.pieces_keep_limits.ensures c.packings_keep_their_total.ensures c.args.pieces.now _ c.requires c.in_ok-certs_of.ensures).drawn

pub sew-requires-clause-room : goal.sew-requires-clause-room
sew-requires-clause-room c = (ready c.args.way c.args.d.now c.keeps_limits.ensures.limits c.fitting_walks_are_sewable.ensures
    c.pieces_keep_limits.ensures c.packings_keep_their_total.ensures c.args.pieces.now _ c.requires c.in_ok-certs_of.ensures).room

pub returns : goal.returns
returns c = (ready c.args.way c.args.d.now c.keeps_limits.ensures.limits c.fitting_walks_are_sewable.ensures
    c.pieces_keep_limits.ensures c.packings_keep_their_total.ensures c.args.pieces.now _ c.requires c.in_ok-certs_of.ensures).over
    _ refl c.in_ok-design.ensures
