-- Pairs with an end that is no place.
use Rattle.std.proofs.Common.{ℕ, ◌<◌, [], ◌∷◌, arith}
use Rattle.blossom_match.specs.declared.matching.Pair.{Pair}
use Rattle.matching_checks.specs.Ends.{EndsBelow}

abbrev pair : ℕ → ℕ → Pair
pair a b = record { a = a; b = b }

-- of four places the last is 3, at either end of any pair
far : 4 < 4 → ⊥
far less = omega (arith, less)

pub known_ends : (EndsBelow 4 (pair 0 1 ∷ pair 4 2 ∷ []) → ⊥) × (EndsBelow 4 (pair 0 1 ∷ pair 2 4 ∷ []) → ⊥)
known_ends = (λ are. far (are 1 (pair 0 0) (omega arith)).0, λ are. far (are 1 (pair 0 0) (omega arith)).1)

pub known_below : (q : Pair) → EndsBelow 4 (pair 0 1 ∷ q ∷ []) → (q.a < 4) × (q.b < 4)
known_below q are = are 1 q (omega arith)
