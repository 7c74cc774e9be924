use Rattle.std.proofs.Common.{map, string_bytes, sym, ap, ◌∙◌}
use Rattle.std.proofs.lemmas.List.{drop_all}
use Rattle.edited_designs.specs.EditMistakes.{first_mistaken}
use Rattle.edited_designs.proofs.ListLemmas.{none_mistaken}
use Rattle.edited_designs.proofs.edit_mistakes.first_mistaken_edit.Goals as goal

pub returns-clause-none : goal.returns-clause-none
returns-clause-none c = none_mistaken (map (λ word. string_bytes word) c.args.words.now)
    (sym c.loop-word.invariant ∙ ap (λ words. first_mistaken (map (λ word. string_bytes word) words))
    (drop_all c.loop-word.word-index c.args.words.now c.loop-word-test.false))
