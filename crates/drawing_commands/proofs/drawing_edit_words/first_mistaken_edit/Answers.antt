use Rattle.std.proofs.Common.{map, string_bytes, sym, ap, ◌∙◌}
use Rattle.std.proofs.lemmas.List.{drop_all}
use Rattle.drawing_commands.specs.DrawingEditWords.{first_mistaken_edit}
use Rattle.drawing_commands.proofs.RequestLemmas.{none_mistaken}
use Rattle.drawing_commands.proofs.drawing_edit_words.first_mistaken_edit.Goals as goal

pub returns-clause-none : goal.returns-clause-none
returns-clause-none c = none_mistaken (map (λ word. string_bytes word) c.args.words.now)
    (sym c.loop-word.invariant ∙ ap (λ words. first_mistaken_edit (map (λ word. string_bytes word) words))
    (drop_all c.loop-word.word-index c.args.words.now c.loop-word-test.false))
