use Rattle.near_pieces.proofs.PieceOrderLemmas.{near_pieces_stay}
use Rattle.near_pieces.proofs.near_theorems.near_pieces_stay.Goals as goal

pub returns : goal.returns
returns c = near_pieces_stay c.spots_are_connected.ensures
