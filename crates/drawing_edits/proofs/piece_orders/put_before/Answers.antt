use Rattle.drawing_edits.proofs.NumberLemmas.{each_piece}
use Rattle.drawing_edits.proofs.piece_orders.put_before.Goals as goal

pub put_before_among-requires-clause-all : goal.put_before_among-requires-clause-all
put_before_among-requires-clause-all c = rw c.as_slice.ensures (c.pieces_are_unique.ensures c.args.d.now _ _
    c.in_ok-pieces.ensures.cut.are (c.pieces_in_order_are_pieces.ensures c.args.d.now c.keeps_limits.ensures.limits))

pub put_before_among-requires-clause-each : goal.put_before_among-requires-clause-each
put_before_among-requires-clause-each c = rw c.as_slice.ensures (each_piece c.args.d.now _ c.in_ok-pieces.ensures.cut)
