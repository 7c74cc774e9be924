-- Edits one after another.
use Rattle.std.proofs.Common.{◌≡◌, ℕ, List, [], ◌∷◌, Option, Some, None, IfSome, IsSome, inl, inr, Result, Ok, Err, refl, subst}
use Rattle.std.specs.Prelude.{unwrap_or}
use Rattle.command_words.specs.Changes.{Change}
use Rattle.command_words.proofs.CallerLemmas.{first_parsed, later_parsed}
use Rattle.command_words.specs.Arguments.{with_first_edit, parsed_edit, parsed_edits}
use Rattle.design_model.specs.Designs.{DesignValue}
use Rattle.stitch_cli.specs.declared.change_faults.ChangeFault.{ChangeFault}
use Rattle.stitch_cli.specs.ChangedDesigns.{Becomes, BecomesAll}

-- The result of the remaining edits on the current design is that of all edits on the first design.
pub record GoesOn (words left : List (List ℕ)) (first now : DesignValue) : Type 0 where
  pub parsed : IsSome (parsed_edits left)
  pub rest : (limit : ℕ) (r : Result DesignValue ChangeFault) → BecomesAll limit (unwrap_or (parsed_edits left) []) now r
      → BecomesAll limit (unwrap_or (parsed_edits words) []) first r

-- the first edit is made, and what the others make of that they make of the whole
made_first : (limit : ℕ) (first : Option Change) (later : Option (List Change)) (old new : DesignValue)
    (r : Result DesignValue ChangeFault) → IsSome first → IsSome later → IfSome first (λ change. Becomes limit change old (Ok new))
    → BecomesAll limit (unwrap_or later []) new r → BecomesAll limit (unwrap_or (with_first_edit first later) []) old r
made_first limit (Some change) (Some changes) old new r one more becomes rest = inl (new, becomes, rest)
made_first limit (Some change) None old new r one more becomes rest = absurd (let no : ⊥ = cc in no)
made_first limit None later old new r one more becomes rest = absurd (let no : ⊥ = cc in no)

refused_first : (limit : ℕ) (first : Option Change) (later : Option (List Change)) (old : DesignValue) (why : ChangeFault)
    → IsSome first → IsSome later → IfSome first (λ change. Becomes limit change old (Err why))
    → BecomesAll limit (unwrap_or (with_first_edit first later) []) old (Err why)
refused_first limit (Some change) (Some changes) old why one more becomes = inr (why, becomes, refl)
refused_first limit (Some change) None old why one more becomes = absurd (let no : ⊥ = cc in no)
refused_first limit None later old why one more becomes = absurd (let no : ⊥ = cc in no)

pub goes_on : (words left : List (List ℕ)) (word : List ℕ) (more : List (List ℕ)) (first now next : DesignValue)
    → GoesOn words left first now → left ≡ word ∷ more
    → ((limit : ℕ) → IfSome (parsed_edit word) (λ change. Becomes limit change now (Ok next))) → GoesOn words more first next
goes_on words left word more first now next goes is becomes =
    step (subst (λ (ws : List (List ℕ)). GoesOn words ws first now) is goes)
  where
    step : GoesOn words (word ∷ more) first now → GoesOn words more first next
    step on = record {
      parsed = later_parsed (parsed_edit word) (parsed_edits more) on.parsed;
      rest = λ limit r rest. on.rest limit r (made_first limit (parsed_edit word) (parsed_edits more) now next r
          (first_parsed (parsed_edit word) (parsed_edits more) on.parsed)
          (later_parsed (parsed_edit word) (parsed_edits more) on.parsed) (becomes limit) rest);
    }

pub goes_refused : (words left : List (List ℕ)) (word : List ℕ) (more : List (List ℕ)) (first now : DesignValue) (why : ChangeFault)
    → GoesOn words left first now → left ≡ word ∷ more
    → ((limit : ℕ) → IfSome (parsed_edit word) (λ change. Becomes limit change now (Err why)))
    → (limit : ℕ) → BecomesAll limit (unwrap_or (parsed_edits words) []) first (Err why)
goes_refused words left word more first now why goes is becomes limit =
    step (subst (λ (ws : List (List ℕ)). GoesOn words ws first now) is goes)
  where
    step : GoesOn words (word ∷ more) first now → BecomesAll limit (unwrap_or (parsed_edits words) []) first (Err why)
    step on = on.rest limit (Err why) (refused_first limit (parsed_edit word) (parsed_edits more) now why
        (first_parsed (parsed_edit word) (parsed_edits more) on.parsed)
        (later_parsed (parsed_edit word) (parsed_edits more) on.parsed) (becomes limit))
