use Rattle.drawing_edits.proofs.NumberLemmas.{ordered_by_numbers}
use Rattle.drawing_edits.proofs.piece_orders.put_before_among.Goals as goal

pub returns-clause-answer : goal.returns-clause-answer
returns-clause-answer c = ordered_by_numbers _ _ _ _ _ _ _ c.requires.all c.in_ok-one.ensures.some c.in_ok-other.ensures.some
    c.order_pieces.ensures.answer
