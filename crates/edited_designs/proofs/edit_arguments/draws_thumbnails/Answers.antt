use Rattle.std.proofs.Common.{◌+◌, ◌∷◌, List, drop, map, rules, string_bytes, sym, ap, ℕ, ◌∙◌}
use Rattle.std.proofs.lemmas.List.{at_drop_more}
use Rattle.edited_designs.proofs.ListLemmas.{next_drawn}
use Rattle.edited_designs.proofs.edit_arguments.draws_thumbnails.Goals as goal

pub loop-word-preserved : goal.loop-word-preserved
loop-word-preserved c =
    let rest : List (List ℕ) = map (λ word. string_bytes word) (drop (c.loop-word.word-index + 1) c.args.words.now) in
    let begins = at_drop_more (λ words. map (λ word. string_bytes word) words) c.args.words.now c.loop-word.word-index
    c.word-item.result c.loop-word-test.true ∙ ap (λ word. string_bytes word ∷ rest) (sym c.word-item.is) in
    let step = next_drawn c.parsed.result (string_bytes c.word-item.result)
    (map (λ word. string_bytes word) (drop c.loop-word.word-index c.args.words.now)) rest begins
    (rw c.as_bytes.ensures.value at c.parsed.ensures.value) c.loop-word.invariant.some in
    record {
      some = step.0;
      same = grind (rules, step.1, c.is_pictured.ensures, c.loop-word.invariant.same);
    }
