use Rattle.std.proofs.Common.{map, string_bytes}
use Rattle.std.proofs.lemmas.List.{at_drop_more}
use Rattle.stitch_cli.proofs.EditLemmas.{goes_on, goes_refused}
use Rattle.stitch_cli.proofs.edits.edited.Goals as goal

pub returns-in-Err : goal.returns-in-Err
returns-in-Err c = goes_refused _ _ _ _ _ _ _ c.loop-word.invariant
    (at_drop_more (λ words. map (λ word. string_bytes word) words) c.args.words.now c.loop-word.word-index _ c.loop-word-test.true)
    (rw (c.as_bytes.ensures.value, c.word-item.is) at c.in-Err.ensures)

pub loop-word-preserved : goal.loop-word-preserved
loop-word-preserved c = goes_on _ _ _ _ _ _ _ c.loop-word.invariant
    (at_drop_more (λ words. map (λ word. string_bytes word) words) c.args.words.now c.loop-word.word-index _ c.loop-word-test.true)
    (rw (c.as_bytes.ensures.value, c.word-item.is) at c.in-Ok.ensures)
