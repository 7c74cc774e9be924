use Rattle.drawing_edits.proofs.PieceLemmas.{pieces_are}
use Rattle.drawing_edits.proofs.order_theorems.pieces_in_order_are_pieces.Goals as goal

pub returns : goal.returns
returns c = λ d. λ limits. pieces_are d limits c.spots_are_connected.ensures
