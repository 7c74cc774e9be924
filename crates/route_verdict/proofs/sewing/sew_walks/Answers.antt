use Rattle.std.proofs.Common.{◌+◌, ◌≤◌, ◌∙◌, List, ap, length, subst, sym, arith}
use Rattle.route_verdict.proofs.Names.{Pass, block_of_passes, needles_of_walk, with_commands, AreDrawn, run_commands, length-append, nat_tests}
use Rattle.route_verdict.proofs.SewLemmas.{drawn_piece, sews_on, walk_first}
use Rattle.route_verdict.proofs.sewing.sew_walks.Goals as goal

pub sew_walk-requires-clause-there : goal.sew_walk-requires-clause-there
sew_walk-requires-clause-there c =
    subst (λ (walk : List Pass). AreDrawn c.args.d.now walk) (sym c.as_slice.ensures)
    (drawn_piece c.args.d.now c.loop-piece.rest.now c.in-Some.after.now c.in-Some.piece.now c.in-Some.ensures.cases.0
    c.loop-piece.invariant.drawn)

pub sew_walk-requires-clause-room : goal.sew_walk-requires-clause-room
sew_walk-requires-clause-room c =
    subst (λ (walk : List Pass). length c.loop-piece.design.commands
    + length (run_commands c.loop-piece.before (block_of_passes c.args.d.now walk) (needles_of_walk c.args.d.now walk)) ≤ 1000000)
    (sym c.as_slice.ensures)
    (grind (arith, nat_tests, walk_first, length-append, c.loop-piece.before, c.in-Some.ensures.cases.0, c.loop-piece.invariant))

pub loop-piece-preserved : goal.loop-piece-preserved
loop-piece-preserved c =
    sews_on c.args.d.now c.args.pieces.now c.args.design.now c.loop-piece.design c.sew_walk.new.design c.loop-piece.before
    c.in_ok-before.before
    c.loop-piece.rest.now c.in-Some.after.now c.in-Some.piece.now c.in-Some.ensures.cases.0
    (c.in_ok-before.ensures.block ∙ ap (λ (walk : List Pass). block_of_passes c.args.d.now walk) c.as_slice.ensures)
    (c.in_ok-before.ensures.sewn ∙ ap (λ (walk : List Pass). with_commands c.loop-piece.design
    (run_commands c.loop-piece.before (block_of_passes c.args.d.now walk) (needles_of_walk c.args.d.now walk))) c.as_slice.ensures)
    c.loop-piece.invariant
