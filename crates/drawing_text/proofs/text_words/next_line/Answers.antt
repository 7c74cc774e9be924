use Rattle.std.proofs.Common.{◌≢◌, [], length, ap, arith}
use Rattle.drawing_text.proofs.Names.{nat_tests}
use Rattle.drawing_text.proofs.WordLemmas.{some_line}
use Rattle.drawing_text.proofs.text_words.next_line.Goals as goal

pub returns-clause-some : goal.returns-clause-some
returns-clause-some c =
    let some : c.args.text.now ≢ [] = λ none. absurd (grind (arith, nat_tests, ap length none)) in
    let first = some_line c.args.text.now some in
    rw (c.after_first.ensures, c.split_at.ensures.back, c.split_at.ensures.front, c.line_length.ensures.value) first
