-- Arguments of which none is mistaken for an edit.
use Rattle.std.proofs.Common.{◌≡◌, ℕ, List, [], ◌∷◌, Option, Some, None, IsSome, refl}
use Rattle.std.specs.Prelude.{if◌then◌else◌}
use Rattle.drawing_commands.proofs.Names.{is_some, with_first_edit, DrawingEdit, parsed_drawing_edit, parsed_drawing_edits}
use Rattle.drawing_commands.specs.DrawingEditWords.{first_mistaken_edit}

-- Arguments of which none is mistaken are edits.
pub none_mistaken : (words : List (List ℕ)) → first_mistaken_edit words ≡ None → IsSome (parsed_drawing_edits words)
none_mistaken [] none = refl
none_mistaken (word ∷ words) none = by_first (parsed_drawing_edit word) none (none_mistaken words)
  where
    by_first : (first : Option DrawingEdit)
        → (if is_some first then first_mistaken_edit words else Some word) ≡ None
        → (first_mistaken_edit words ≡ None → IsSome (parsed_drawing_edits words))
        → IsSome (with_first_edit first (parsed_drawing_edits words))
    by_first None none later = absurd (some_word none)
      where
        some_word : ◌≡◌ {A = Option (List ℕ)} (Some word) None → ⊥
        some_word is = cc
    by_first (Some change) none later = with_first (parsed_drawing_edits words) (later none)
      where
        with_first : (more : Option (List DrawingEdit)) → IsSome more → IsSome (with_first_edit (Some change) more)
        with_first None some = some
        with_first (Some edits) some = some
