use Rattle.std.proofs.Common.{sym, ◌∙◌}
use Rattle.stitch_text.proofs.Names.{words_in, some_part}
use Rattle.stitch_text.proofs.ReadingLemmas.{other_word}
use Rattle.stitch_text.proofs.list_line.line_of_more.Goals as goal

pub returns : goal.returns
returns c =
    sym (other_word c.args.word.now c.args.x.now (words_in c.args.behind.now) (some_part 32 c.args.behind.now)
    (sym c.equals_text.ensures ∙ c.if-equals_text.false) (sym c.equals_text-2.ensures ∙ c.if-equals_text-2.false))
