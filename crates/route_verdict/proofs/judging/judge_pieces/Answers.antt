use Rattle.route_verdict.proofs.VerdictLemmas.{verdict_right}
use Rattle.route_verdict.proofs.judging.judge_pieces.Goals as goal

pub returns : goal.returns
returns c =
    verdict_right c.args.d.now c.args.pieces.now c.args.design.now c.args.cert.now.pieces c.in_ok-reason.reason c.verdict_by.result
    c.walk_faults_are_exact.ensures c.cut_faults_are_exact.ensures c.packings_bound_walks.ensures c.packings_prove_least.ensures
    c.requires.pieces (rw (← c.as_slice.ensures) c.in_ok-reason.ensures) c.verdict_by.ensures
