use Rattle.std.proofs.Common.{◌≡◌, drop, map, string_bytes}
use Rattle.drawing_commands.specs.DrawingEditWords.{first_mistaken_edit}
use Rattle.drawing_commands.proofs.drawing_edit_words.first_mistaken_edit.Given as goal

-- the arguments that are left decide
abbrev pub invariant-loop-word : goal.invariant-loop-word
invariant-loop-word l =
    first_mistaken_edit (map (λ word. string_bytes word) (drop l.word-index l.words))
    ≡ first_mistaken_edit (map (λ word. string_bytes word) l.words)
