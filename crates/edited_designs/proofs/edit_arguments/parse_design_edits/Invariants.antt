use Rattle.std.proofs.Common.{◌≡◌, All, IsSome, drop, map, string_bytes}
use Rattle.edited_designs.proofs.ListLemmas.{all_edits}
use Rattle.edited_designs.proofs.Names.{IsDesignEdit, parsed_changes}
use Rattle.edited_designs.proofs.edit_arguments.parse_design_edits.Given as goal

-- the edits so far, with those of the arguments that are left, are all edits
abbrev pub invariant-loop-word : goal.invariant-loop-word
invariant-loop-word l = record {
  some : IsSome (parsed_changes (map (λ word. string_bytes word) (drop l.word-index l.words)));
  bounds : All IsDesignEdit l.edits;
  goes : all_edits l.edits (map (λ word. string_bytes word) (drop l.word-index l.words))
      ≡ parsed_changes (map (λ word. string_bytes word) l.words);
}
