use Rattle.certificate_text.proofs.Names.{piece_text, HasSmallNumbers}
use Rattle.certificate_text.proofs.ItemPuts.{all_kept, put_more}
use Rattle.certificate_text.proofs.printing.put_pieces.Goals as goal

pub loop-piece-preserved : goal.loop-piece-preserved
loop-piece-preserved c =
    put_more piece_text HasSmallNumbers c.args.pieces.now c.loop-piece.piece-index c.piece-item.result
    c.loop-piece.text _ _ c.loop-piece.invariant c.loop-piece-test.true c.piece-item.is c.in_ok-put_piece.ensures.value
    c.in_ok-put_piece.ensures.small

pub returns-clause-small : goal.returns-clause-small
returns-clause-small c =
    all_kept piece_text HasSmallNumbers c.args.pieces.now c.loop-piece.piece-index _ _ c.loop-piece.invariant
    c.loop-piece-test.false
