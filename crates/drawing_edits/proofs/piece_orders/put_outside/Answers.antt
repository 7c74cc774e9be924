use Rattle.std.proofs.Common.{sym, ◌∙◌}
use Rattle.drawing_edits.proofs.Names.{line_numbered}
use Rattle.drawing_edits.proofs.OutsideLemmas.{outside_skips, outside_takes}
use Rattle.drawing_edits.proofs.piece_orders.put_outside.Goals as goal

pub loop-line-preserved-then-contains : goal.loop-line-preserved-then-contains
loop-line-preserved-then-contains c = outside_skips (line_numbered c.args.d.now) c.args.piece.now _ _ _ _ c.loop-line-test.true
    (sym c.contains.ensures.value ∙ c.if-contains.true) c.loop-line.invariant

pub loop-line-preserved : goal.loop-line-preserved
loop-line-preserved c = outside_takes (line_numbered c.args.d.now) c.args.piece.now _ _ _ _ _ c.loop-line-test.true
    (sym c.contains.ensures.value ∙ c.if-contains.false) c.in_ok-put_numbered.ensures c.loop-line.invariant
