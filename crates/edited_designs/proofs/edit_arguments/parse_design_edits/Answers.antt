use Rattle.std.proofs.Common.{◌+◌, ◌∷◌, [], List, drop, map, string_bytes, sym, ap, ℕ, ◌∙◌}
use Rattle.std.proofs.lemmas.List.{at_drop_more}
use Rattle.std.proofs.lemmas.List.Elements.{All-append, All-cons, All-nil}
use Rattle.edited_designs.proofs.ListLemmas.{goes_on}
use Rattle.edited_designs.proofs.Names.{IsDesignEdit}
use Rattle.edited_designs.proofs.edit_arguments.parse_design_edits.Goals as goal

pub loop-word-preserved : goal.loop-word-preserved
loop-word-preserved c =
    let rest : List (List ℕ) = map (λ word. string_bytes word) (drop (c.loop-word.word-index + 1) c.args.words.now) in
    let more = at_drop_more (λ words. map (λ word. string_bytes word) words) c.args.words.now c.loop-word.word-index
    c.word-item.result c.loop-word-test.true in
    let begins = more ∙ ap (λ word. string_bytes word ∷ rest) (sym c.word-item.is) in
    let step = goes_on c.loop-word.edits c.parsed.result (string_bytes c.word-item.result)
    (map (λ word. string_bytes word) (drop c.loop-word.word-index c.args.words.now)) rest _ begins
    (rw c.as_bytes.ensures.value at c.parsed.ensures.value) c.loop-word.invariant.some c.loop-word.invariant.goes in
    record {
      some = step.0;
      bounds = rw c.in_ok-push.ensures.ok (All-append IsDesignEdit c.loop-word.edits (c.parsed.result ∷ []) c.loop-word.invariant.bounds
          (All-cons IsDesignEdit c.parsed.result [] c.parsed.ensures.bounds (All-nil IsDesignEdit)));
      goes = rw c.in_ok-push.ensures.ok step.1;
    }
