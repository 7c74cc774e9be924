use Rattle.std.proofs.Common.{◌≢◌, ℕ, List, All, ap, sym, subst, take, refl}
use Rattle.stitch_trace.proofs.LabelLemmas.{no_space, word_label}
use Rattle.stitch_trace.proofs.drawing_of_strands.first_word.Goals as goal

pub returns-clause-label : goal.returns-clause-label
returns-clause-label c =
    word_label c.args.label.now _ c.word_end.result (ap (λ (n : ℕ). take n c.args.label.now) c.word_end.ensures.value) refl
    c.word_end.ensures.within c.requires

pub returns-clause-one_word : goal.returns-clause-one_word
returns-clause-one_word c =
    subst (λ (bytes : List ℕ). All (λ byte. byte ≢ 32) bytes)
    (sym (ap (λ (n : ℕ). take n c.args.label.now) c.word_end.ensures.value)) (no_space c.args.label.now)
