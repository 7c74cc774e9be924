use Rattle.certificate_text.proofs.WordsLemmas.{one_member}
use Rattle.certificate_text.proofs.lines.members_of.Goals as goal

pub loop-word-preserved : goal.loop-word-preserved
loop-word-preserved c = one_member c.args.words.now c.loop-word.rest.now c.in-Some.word.now c.in-Some.after.now
    c.loop-word.before c.in-Some-number_above.number c.loop-word.members _ c.loop-word.invariant c.in-Some.ensures.some
    c.in-Some-number_above.ensures.value c.in_ok-push.ensures.ok
