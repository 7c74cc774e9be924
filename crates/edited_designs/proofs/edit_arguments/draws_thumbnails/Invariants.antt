use Rattle.std.proofs.Common.{◌≡◌, IsSome, drop, map, string_bytes}
use Rattle.edited_designs.specs.DesignChanges.{draws_thumbnails}
use Rattle.edited_designs.specs.EditArguments.{changes_of}
use Rattle.edited_designs.proofs.Names.{parsed_changes}
use Rattle.edited_designs.proofs.edit_arguments.draws_thumbnails.Given as goal

-- the arguments that are left decide
abbrev pub invariant-loop-word : goal.invariant-loop-word
invariant-loop-word l = record {
  some : IsSome (parsed_changes (map (λ word. string_bytes word) (drop l.word-index l.words)));
  same : draws_thumbnails (changes_of (map (λ word. string_bytes word) (drop l.word-index l.words)))
      ≡ draws_thumbnails (changes_of (map (λ word. string_bytes word) l.words));
}
