use Rattle.std.proofs.Common.{◌≢◌, length, arith}
use Rattle.drawing_text.proofs.Names.{nat_tests, nil_from_length}
use Rattle.drawing_text.proofs.WordLemmas.{Taken, word_taken, words_skipped}
use Rattle.drawing_text.proofs.text_words.next_word.Goals as goal

pub returns-then-is_empty-clause-none : goal.returns-then-is_empty-clause-none
returns-then-is_empty-clause-none c =
    grind (arith, nat_tests, nil_from_length, words_skipped, c.word_start.ensures.value, c.split_at.ensures.back)

-- the word is taken
taken : (c : goal.After-rest-1) → Taken c.args.line.now c.split_at-2.result.0.now c.split_at-2.result.1.now
taken c =
    let some : length c.split_at.result.1.now ≢ 0 = grind (arith, nat_tests) in
    word_taken _ _ _ _ _ _ c.word_start.ensures.value c.split_at.ensures.back some c.word_end.ensures.value
    c.split_at-2.ensures.front c.split_at-2.ensures.back

pub returns-clause-some : goal.returns-clause-some
returns-clause-some c = (taken c).words

pub returns-clause-shorter : goal.returns-clause-shorter
returns-clause-shorter c = (taken c).shorter
