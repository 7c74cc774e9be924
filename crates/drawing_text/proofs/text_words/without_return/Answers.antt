use Rattle.drawing_text.proofs.WordLemmas.{no_return, return_dropped}
use Rattle.drawing_text.proofs.text_words.without_return.Goals as goal

pub returns-then-last-eq13 : goal.returns-then-last-eq13
returns-then-last-eq13 c = return_dropped c.args.line.now c.if-last-eq13.true

pub returns-else-last-eq13 : goal.returns-else-last-eq13
returns-else-last-eq13 c = no_return c.args.line.now c.if-last-eq13.false
