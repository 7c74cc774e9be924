-- Lemmas for the crates that parse edits: edits among arguments, one after another.
use Rattle.std.proofs.Common.{◌≡◌, ◌&&◌, ◌∷◌, ℕ, Bool, List, [], Option, Some, None, IsSome, arith, map, refl}
use Rattle.std.proofs.lemmas.Bool.Decides.{nat_tests}
use Rattle.std.specs.List.{list_all}
use Rattle.std.specs.Prelude.{is_some}
use Rattle.command_words.specs.Arguments.{all_parsed, with_first_edit}

-- All arguments are edits exactly if each of them is.
pub all_are_parsed : {E X : Type 0} (parsed : List ℕ → Option E) (text : X → List ℕ) (words : List X)
    → list_all (λ word. is_some (parsed (text word))) words ≡ is_some (all_parsed parsed (map text words))
all_are_parsed parsed text [] = refl
all_are_parsed parsed text (word ∷ words) =
    both (parsed (text word)) (all_parsed parsed (map text words)) (all_are_parsed parsed text words)
  where
    both : {E : Type 0} (first : Option E) (later : Option (List E)) {after : Bool} → after ≡ is_some later
        → (is_some first && after) ≡ is_some (with_first_edit first later)
    both first later h1 = grind (arith, nat_tests)

-- Of some edits, the first is one.
pub first_parsed : {E : Type 0} (first : Option E) (later : Option (List E)) → IsSome (with_first_edit first later) → IsSome first
first_parsed (Some one) later some = refl
first_parsed None later some = some

-- Of some edits, those after the first are edits.
pub later_parsed : {E : Type 0} (first : Option E) (later : Option (List E)) → IsSome (with_first_edit first later) → IsSome later
later_parsed (Some one) (Some edits) some = refl
later_parsed (Some one) None some = some
later_parsed None (Some edits) some = refl
later_parsed None None some = some
