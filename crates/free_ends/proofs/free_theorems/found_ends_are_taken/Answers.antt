use Rattle.free_ends.proofs.TakenLemmas.{found_ends_taken}
use Rattle.free_ends.proofs.free_theorems.found_ends_are_taken.Goals as goal

pub returns : goal.returns
returns c = found_ends_taken c.spots_are_connected.ensures c.given_points_are_junctions.ensures c.pieces_are_valid.ensures
    c.sections_are_whole.ensures c.lines_within_limits_are_drawn.ensures c.joined_drawings_stay.ensures
    c.valid_drawings_are_redrawn.ensures
