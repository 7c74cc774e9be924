use Rattle.near_pieces.proofs.DrawnWholeLemmas.{near_drawings_keep_pieces}
use Rattle.near_pieces.proofs.near_theorems.near_drawings_keep_pieces.Goals as goal

pub returns : goal.returns
returns c = near_drawings_keep_pieces c.lines_in_order_are_drawn.ensures c.spots_are_connected.ensures
