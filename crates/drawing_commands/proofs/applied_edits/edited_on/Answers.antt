use Rattle.std.proofs.Common.{map, string_bytes, arith}
use Rattle.drawing_commands.proofs.Names.{at_drop_more}
use Rattle.drawing_commands.proofs.DrawingEditLemmas.{edits_go_on, edits_refused, next_parsed}
use Rattle.drawing_commands.proofs.applied_edits.edited_on.Goals as goal

pub apply_word-requires-clause-edit : goal.apply_word-requires-clause-edit
apply_word-requires-clause-edit c = rw (c.as_bytes.ensures.value, c.word-item.is) (next_parsed 2 _ _ _ _ _ _ _ c.loop-word.invariant.goes
    (at_drop_more (λ words. map (λ word. string_bytes word) words) c.args.words.now c.loop-word.word-index _ c.loop-word-test.true))

pub returns-in-Err-clause-answer : goal.returns-in-Err-clause-answer
returns-in-Err-clause-answer c = edits_refused 2 _ _ _ _ _ _ _ _ c.loop-word.invariant.goes
    (at_drop_more (λ words. map (λ word. string_bytes word) words) c.args.words.now c.loop-word.word-index _ c.loop-word-test.true)
    (rw (c.as_bytes.ensures.value, c.word-item.is) at c.in-Err.ensures.answer)

pub loop-word-preserved : goal.loop-word-preserved
loop-word-preserved c = record {
  numbered = omega (arith, c.loop-word.invariant.numbered);
  joined = c.in-Ok.ensures.joined;
  ordered = c.in-Ok.ensures.ordered;
  goes = edits_go_on 2 _ _ _ _ _ _ _ _ c.loop-word.invariant.goes
      (at_drop_more (λ words. map (λ word. string_bytes word) words) c.args.words.now c.loop-word.word-index _ c.loop-word-test.true)
      (rw (c.as_bytes.ensures.value, c.word-item.is) at c.in-Ok.ensures.answer);
}
