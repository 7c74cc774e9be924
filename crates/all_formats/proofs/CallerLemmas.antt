-- Lemmas for the crates of programs: the meanings of a list of five boxed objects.
use Rattle.std.proofs.Common.{◌≡◌, [], ◌∷◌, subst, sym}
use Rattle.format_traits.specs.Meanings.{Meaning}

-- An object's meaning, where each object of its type has that meaning.
pub meaning_at : {Types : Type 0} {Object : Types → Type 0} (meaning : (type : Types) → Object type → Meaning) (is : Meaning)
    (type known : Types) → type ≡ known → ((o : Object known) → meaning known o ≡ is) → (o : Object type) → meaning type o ≡ is
meaning_at {Types} {Object} meaning is type known same all =
    subst (λ (t : Types). (o : Object t) → meaning t o ≡ is) (sym same) all

-- Two lists of five meanings are equal, one by one.
pub same_five : {a b c d e v w x y z : Meaning} → a ≡ v → b ≡ w → c ≡ x → d ≡ y → e ≡ z
    → a ∷ b ∷ c ∷ d ∷ e ∷ [] ≡ v ∷ w ∷ x ∷ y ∷ z ∷ []
same_five p q r s t = cc
