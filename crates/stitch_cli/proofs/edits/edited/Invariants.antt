use Rattle.std.proofs.Common.{drop, map, string_bytes}
use Rattle.stitch_cli.proofs.EditLemmas.{GoesOn}
use Rattle.stitch_cli.proofs.edits.edited.Given as goal

-- The result of the remaining edits on the current design is that of all edits on the first design.
abbrev pub invariant-loop-word : goal.invariant-loop-word
invariant-loop-word l = GoesOn (map (λ word. string_bytes word) l.words)
    (map (λ word. string_bytes word) (drop l.word-index l.words)) l.fn.design l.edited
