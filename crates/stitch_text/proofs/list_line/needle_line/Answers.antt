use Rattle.std.proofs.Common.{sym}
use Rattle.stitch_text.proofs.Names.{needle_word}
use Rattle.stitch_text.proofs.ReadingLemmas.{many_words}
use Rattle.stitch_text.proofs.list_line.needle_line.Goals as goal

pub returns-in-Some : goal.returns-in-Some
returns-in-Some c =
    sym (many_words (needle_word c.args.float) c.args.x.now c.args.behind.now c.in-Some.field-0.0.now c.in-Some.field-0.1.now
    c.in-Some.ensures.some)
