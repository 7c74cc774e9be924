use Rattle.std.proofs.Common.{map, string_bytes}
use Rattle.drawing_commands.proofs.Names.{at_drop_more}
use Rattle.drawing_commands.proofs.OrderEditLemmas.{next_order_parsed, orders_go_on}
use Rattle.drawing_commands.proofs.orders_alone.ordered_alone.Goals as goal

pub with_word-requires : goal.with_word-requires
with_word-requires c = rw (c.as_bytes.ensures.value, c.word-item.is) (next_order_parsed _ _ _ _ _ _ c.loop-word.invariant
    (at_drop_more (λ words. map (λ word. string_bytes word) words) c.args.words.now c.loop-word.word-index _ c.loop-word-test.true))

pub loop-word-preserved : goal.loop-word-preserved
loop-word-preserved c = orders_go_on _ _ _ _ _ _ _ c.loop-word.invariant
    (at_drop_more (λ words. map (λ word. string_bytes word) words) c.args.words.now c.loop-word.word-index _ c.loop-word-test.true)
    (rw (c.as_bytes.ensures.value, c.word-item.is) at c.in_ok-ordered.ensures)
