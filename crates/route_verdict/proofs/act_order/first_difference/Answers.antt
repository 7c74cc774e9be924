use Rattle.std.proofs.Common.{◌∙◌, Err, List, Ok, ap, subst, sym}
use Rattle.route_verdict.proofs.Names.{Pass, block_of_passes, AreDrawn}
use Rattle.route_verdict.proofs.ActOrderLemmas.{LeftRuns, run_is, runs_differ, runs_on}
use Rattle.route_verdict.proofs.SewLemmas.{drawn_piece}
use Rattle.route_verdict.proofs.act_order.first_difference.Goals as goal

pub walk_needles-requires : goal.walk_needles-requires
walk_needles-requires c =
    subst (λ (walk : List Pass). AreDrawn c.args.d.now walk) (sym c.as_slice.ensures)
    (drawn_piece c.args.d.now c.loop-cert.rest.now c.in-Some.after.now c.in-Some.cert.now c.in-Some.ensures.cases.0
    c.loop-cert.invariant.drawn)

pub block_of_walk-block-requires : goal.block_of_walk-block-requires
block_of_walk-block-requires c =
    subst (λ (walk : List Pass). AreDrawn c.args.d.now walk) (sym c.as_slice-in-Some.ensures)
    (drawn_piece c.args.d.now c.loop-cert.rest.now c.in-Some.after.now c.in-Some.cert.now c.in-Some.ensures.cases.0
    c.loop-cert.invariant.drawn)

pub returns-in-Err : goal.returns-in-Err
returns-in-Err c = sym (runs_differ c.args.d.now c.args.acts.now c.args.certs.now c.loop-cert.at c.loop-cert.before c.in-Err.number
    c.loop-cert.rest.now c.in-Some.after.now c.in-Some.cert.now c.in-Some.ensures.cases.0 c.loop-cert.invariant
    (run_is c.args.d.now c.args.acts.now c.loop-cert.at c.loop-cert.before c.block_of_walk-block.result c.saturating_sub.result
    c.in-Some.cert.now.walk c.as_slice-in-Some.result.now c.as_slice.result.now c.as_slice-in-Some-2.result.now c.in_ok-points.points
    (Err c.in-Err.number)
    c.as_slice-in-Some.ensures c.as_slice.ensures c.block_of_walk-block.ensures c.saturating_sub.ensures c.as_slice-in-Some-2.ensures
    c.in_ok-points.ensures c.in-Err.ensures))

pub loop-cert-preserved : goal.loop-cert-preserved
loop-cert-preserved c = subst (λ block. LeftRuns c.args.d.now c.args.acts.now c.args.certs.now c.in-Ok.next block c.in-Some.after.now)
    (sym (c.block_of_walk-block.ensures ∙ ap (block_of_passes c.args.d.now) c.as_slice-in-Some.ensures))
    (runs_on c.args.d.now c.args.acts.now c.args.certs.now c.loop-cert.at c.loop-cert.before c.in-Ok.next
    c.loop-cert.rest.now c.in-Some.after.now c.in-Some.cert.now c.in-Some.ensures.cases.0 c.loop-cert.invariant
    (run_is c.args.d.now c.args.acts.now c.loop-cert.at c.loop-cert.before c.block_of_walk-block.result c.saturating_sub.result
    c.in-Some.cert.now.walk c.as_slice-in-Some.result.now c.as_slice.result.now c.as_slice-in-Some-2.result.now c.in_ok-points.points
    (Ok c.in-Ok.next)
    c.as_slice-in-Some.ensures c.as_slice.ensures c.block_of_walk-block.ensures c.saturating_sub.ensures c.as_slice-in-Some-2.ensures
    c.in_ok-points.ensures c.in-Ok.ensures))
