use Rattle.std.proofs.Common.{◌≡◌, drop, map, string_bytes}
use Rattle.edited_designs.specs.EditMistakes.{first_mistaken}
use Rattle.edited_designs.proofs.edit_mistakes.first_mistaken_edit.Given as goal

-- the arguments that are left decide
abbrev pub invariant-loop-word : goal.invariant-loop-word
invariant-loop-word l =
    first_mistaken (map (λ word. string_bytes word) (drop l.word-index l.words))
    ≡ first_mistaken (map (λ word. string_bytes word) l.words)
