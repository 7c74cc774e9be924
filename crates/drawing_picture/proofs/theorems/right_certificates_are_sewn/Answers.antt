use Rattle.drawing_picture.proofs.CertificateLemmas.{right_are_sewn}
use Rattle.drawing_picture.proofs.theorems.right_certificates_are_sewn.Goals as goal

pub returns : goal.returns
returns c = right_are_sewn c.walk_faults_are_exact.ensures c.cut_faults_are_exact.ensures c.packings_bound_walks.ensures
    c.packings_keep_their_total.ensures c.fitting_walks_are_sewable.ensures c.pieces_are_valid.ensures c.pieces_keep_limits.ensures
    c.runs_are_sewn.ensures c.correct_routes_are_accepted.ensures c.yes_is_least_redwork.ensures
