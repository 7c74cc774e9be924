use Rattle.drawing_edits.proofs.OutsideLemmas.{piece_then_line}
use Rattle.drawing_edits.proofs.order_theorems.pieces_come_before.Goals as goal

pub returns : goal.returns
returns c = piece_then_line
