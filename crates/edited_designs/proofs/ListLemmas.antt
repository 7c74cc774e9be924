-- Lists of edits.
use Rattle.std.proofs.Common.{◌≡◌, ℕ, List, [], ◌∷◌, ◌++◌, Option, Some, None, IsSome, false, true, map, refl, sym, ap, subst, ◌∙◌, append_assoc}
use Rattle.std.specs.Prelude.{option_map}
use Rattle.std.proofs.lemmas.List.{map-append}
use Rattle.command_words.proofs.CallerLemmas.{later_parsed}
use Rattle.edited_designs.specs.DesignChanges.{draws_thumbnails, is_pictured}
use Rattle.edited_designs.specs.EditArguments.{changes_of}
use Rattle.edited_designs.specs.EditMistakes.{first_mistaken}
use Rattle.std.specs.Prelude.{◌||◌, is_some, unwrap_or, if◌then◌else◌}
use Rattle.edited_designs.proofs.Names.{DesignChange, DesignEdit, design_change, parsed_change, parsed_changes, with_first_edit}

-- all edits, by those that are parsed and the arguments that are left
abbrev pub all_edits : List DesignEdit → List (List ℕ) → Option (List DesignChange)
all_edits edits words = option_map (λ later. map design_change edits ++ later) (parsed_changes words)

-- one more edit is parsed
pub next_edit : (edits : List DesignEdit) (edit : DesignEdit) (word : List ℕ) (words : List (List ℕ))
    → parsed_change word ≡ Some (design_change edit) → IsSome (parsed_changes (word ∷ words))
    → all_edits edits (word ∷ words) ≡ all_edits (edits ++ edit ∷ []) words
next_edit edits edit word words is some = rw is (by_later (parsed_changes words))
  where
    by_later : (later : Option (List DesignChange))
        → option_map (λ more. map design_change edits ++ more) (with_first_edit (Some (design_change edit)) later)
        ≡ option_map (λ more. map design_change (edits ++ edit ∷ []) ++ more) later
    by_later None = refl
    by_later (Some later) =
        ap Some (sym (ap (λ xs. xs ++ later) (map-append design_change edits (edit ∷ []))
        ∙ append_assoc (map design_change edits) (design_change edit ∷ []) later))

-- one argument more is parsed
pub goes_on : (edits : List DesignEdit) (edit : DesignEdit) (word : List ℕ) (left rest : List (List ℕ)) (whole : Option (List DesignChange))
    → left ≡ word ∷ rest → parsed_change word ≡ Some (design_change edit) → IsSome (parsed_changes left) → all_edits edits left ≡ whole
    → IsSome (parsed_changes rest) × (all_edits (edits ++ edit ∷ []) rest ≡ whole)
goes_on edits edit word left rest whole begins is some goes =
    let some_first : IsSome (parsed_changes (word ∷ rest)) = subst (λ words. IsSome (parsed_changes words)) begins some in (
      later_parsed (parsed_change word) (parsed_changes rest) some_first,
      sym (next_edit edits edit word rest is some_first) ∙ ap (all_edits edits) (sym begins) ∙ goes,
    )

-- arguments of which none is mistaken are edits
pub none_mistaken : (words : List (List ℕ)) → first_mistaken words ≡ None → IsSome (parsed_changes words)
none_mistaken [] none = refl
none_mistaken (word ∷ words) none = by_first (parsed_change word) none (none_mistaken words)
  where
    by_first : (first : Option DesignChange)
        → (if is_some first then first_mistaken words else Some word) ≡ None
        → (first_mistaken words ≡ None → IsSome (parsed_changes words))
        → IsSome (with_first_edit first (parsed_changes words))
    by_first None none later = absurd (some_word none)
      where
        some_word : ◌≡◌ {A = Option (List ℕ)} (Some word) None → ⊥
        some_word is = cc
    by_first (Some change) none later = with_first (parsed_changes words) (later none)
      where
        with_first : (more : Option (List DesignChange)) → IsSome more → IsSome (with_first_edit (Some change) more)
        with_first None some = some
        with_first (Some edits) some = some

-- whether thumbnails are drawn, by the first edit and the others
pub next_drawn : (edit : DesignEdit) (word : List ℕ) (left rest : List (List ℕ)) → left ≡ word ∷ rest
    → parsed_change word ≡ Some (design_change edit) → IsSome (parsed_changes left)
    → IsSome (parsed_changes rest) × (draws_thumbnails (changes_of left)
    ≡ (is_pictured (design_change edit) || draws_thumbnails (changes_of rest)))
next_drawn edit word left rest begins is some =
    let some_first : IsSome (parsed_changes (word ∷ rest)) = subst (λ words. IsSome (parsed_changes words)) begins some in (
      later_parsed (parsed_change word) (parsed_changes rest) some_first,
      ap (λ words. draws_thumbnails (changes_of words)) begins ∙ ap (λ first. draws_thumbnails
          (unwrap_or (with_first_edit first (parsed_changes rest)) [])) is
          ∙ by_later (parsed_changes rest) (later_parsed (parsed_change word) (parsed_changes rest) some_first),
    )
  where
    by_later : (later : Option (List DesignChange)) → IsSome later
        → draws_thumbnails (unwrap_or (with_first_edit (Some (design_change edit)) later) [])
        ≡ (is_pictured (design_change edit) || draws_thumbnails (unwrap_or later []))
    by_later None some = let no : false ≡ true = some in cc
    by_later (Some later) some = refl
