use Rattle.route_verdict.proofs.VerdictLemmas.{correct_is_yes}
use Rattle.route_verdict.proofs.theorems.correct_routes_are_accepted.Goals as goal

pub returns : goal.returns
returns c =
    correct_is_yes c.walk_faults_are_exact.ensures c.cut_faults_are_exact.ensures c.packings_bound_walks.ensures
    c.packings_prove_least.ensures c.pieces_are_valid.ensures
