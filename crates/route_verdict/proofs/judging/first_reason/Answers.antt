use Rattle.std.proofs.Common.{sym}
use Rattle.route_verdict.proofs.VerdictLemmas.{drawn_right, pieces_few}
use Rattle.route_verdict.proofs.judging.first_reason.Goals as goal

pub wrong_count-requires-clause-drawn : goal.wrong_count-requires-clause-drawn
wrong_count-requires-clause-drawn c =
    pieces_few c.args.d.now c.args.pieces.now c.keeps_limits.ensures.limits c.pieces_keep_limits.ensures c.requires.pieces

pub wrong_piece-requires-clause-few : goal.wrong_piece-requires-clause-few
wrong_piece-requires-clause-few c =
    pieces_few c.args.d.now c.args.pieces.now c.keeps_limits.ensures.limits c.pieces_keep_limits.ensures c.requires.pieces

pub wrong_act-requires : goal.wrong_act-requires
wrong_act-requires c =
    drawn_right c.args.d.now c.args.pieces.now c.args.certs.now c.keeps_limits.ensures.limits c.fitting_walks_are_sewable.ensures
    c.walk_faults_are_exact.ensures c.requires.pieces (sym c.in_default.ensures) (sym c.in_default-wrong_piece.ensures)
