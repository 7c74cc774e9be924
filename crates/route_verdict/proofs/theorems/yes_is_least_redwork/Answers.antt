use Rattle.route_verdict.proofs.RedworkLemmas.{yes_is_redwork}
use Rattle.route_verdict.proofs.theorems.yes_is_least_redwork.Goals as goal

pub returns : goal.returns
returns c =
    yes_is_redwork c.fitting_walks_are_threads.ensures c.fitting_walks_are_sewable.ensures c.packings_are_over_lines.ensures
    c.pieces_are_valid.ensures c.correct_routes_are_accepted.ensures
