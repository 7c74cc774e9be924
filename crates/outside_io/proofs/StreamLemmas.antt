-- Bytes that are added to a stream one part after another.
use Rattle.std.proofs.Common.{arith, ◌≡◌, ℕ, List, [], ◌++◌, Option, refl, sym, subst, ◌∙◌, append_assoc, append-nil, take, drop, take-append-drop}
use Rattle.std.proofs.KnownBytes.{Appends-nil, Appends-trans, Appends-kept}
use Rattle.outside_io.proofs.Names.{nat_tests, Keeps, AddsPrefix, Appends}

-- at first nothing was added
pub adds_none : (held : Option (List ℕ)) (bytes : List ℕ) → AddsPrefix held held bytes bytes
adds_none held bytes = record { first = []; parts = refl; added = Appends-nil held }

-- some of the bytes that were left are added
pub adds_more : (old before new : Option (List ℕ)) (bytes left rest : List ℕ) (count : ℕ) → AddsPrefix old before bytes left
    → Appends before new (take count left) → rest ≡ drop count left → AddsPrefix old new bytes rest
adds_more old before new bytes left rest count so_far more is = record {
  first = so_far.first ++ take count left;
  parts = grind (arith, nat_tests, append_assoc, take-append-drop, so_far.parts);
  added = Appends-trans old before new so_far.first (take count left) so_far.added more;
}

-- a write that fails adds nothing
pub adds_no_more : (old before new : Option (List ℕ)) (bytes left : List ℕ) → AddsPrefix old before bytes left
    → Keeps before new → AddsPrefix old new bytes left
adds_no_more old before new bytes left so_far kept = record {
  first = so_far.first;
  parts = so_far.parts;
  added = Appends-kept old before new so_far.first so_far.added kept;
}

-- where none are left, all were added
pub adds_all : (old new : Option (List ℕ)) (bytes : List ℕ) → AddsPrefix old new bytes [] → Appends old new bytes
adds_all old new bytes so_far =
    subst (λ l. Appends old new l) (sym (append-nil so_far.first) ∙ so_far.parts) so_far.added
