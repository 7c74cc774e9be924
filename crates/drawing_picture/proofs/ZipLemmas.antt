-- A function of two lists, at the end of the shorter one.
use Rattle.std.proofs.Common.{◌≡◌, ◌⊎◌, List, [], ◌∷◌, arith}

pub shorter_ends : {A B Y : Type 0} (f : List A → List B → List Y) → ((ys : List B) → f [] ys ≡ [])
    → ((x : A) (xs : List A) → f (x ∷ xs) [] ≡ []) → (xs : List A) (ys : List B) → (xs ≡ []) ⊎ (ys ≡ []) → f xs ys ≡ []
shorter_ends f first second [] ys end = first ys
shorter_ends f first second (x ∷ xs) ys end = grind (arith, second x xs)
