-- Lengths that are kept.
use Rattle.std.proofs.Common.{◌≡◌, ◌⊎◌, ℕ, ◌*◌, ◌<◌, true, nat_lt, List, length, replicate, ◌∙◌, ap, sym, subst, inl, inr, arith}
use Rattle.std.proofs.lemmas.Grind.{get_or_default_zero}
use Rattle.std.proofs.lemmas.Bool.{cases_eq, ltb-true}
use Rattle.std.proofs.lemmas.List.{get_or-replicate, get_or-set_same, get_or-set_other, length-replicate, length-set}
use Rattle.std.specs.Prelude.{get_or, set}
use Rattle.design_model.specs.Lengths.{length_of, square_of, whole_root}
use Rattle.design_model.specs.declared.point.Point.{Point}
use Rattle.design_review.specs.KeptLengths.{AreKeptLengths, IsKeptLength}
use Rattle.design_review.specs.declared.straight_lengths.TheConstants.{NO_LENGTH}

-- a table without lengths
pub none_kept : (n none : ℕ) (kept : List ℕ) → none ≡ NO_LENGTH → kept ≡ replicate n none → AreKeptLengths kept
none_kept n none kept unkept is square inside =
    let within : square < n = omega (arith, subst (λ (xs : List ℕ). square < length xs) is inside, length-replicate n none) in
    inl (ap (λ (xs : List ℕ). get_or xs square 0) is ∙ get_or-replicate n square none 0 within ∙ unkept)

-- one more length is kept
pub one_kept : (kept : List ℕ) (at length_at : ℕ) → AreKeptLengths kept → length_at ≡ whole_root (10000 * at)
    → AreKeptLengths (set kept at length_at)
one_kept kept at length_at are is square inside = by_place (cases_eq square at)
  where
    within : square < length kept
    within = omega (arith, inside, length-set kept at length_at)

    by_place : (square ≡ at) ⊎ (square ≡ at → ⊥) → IsKeptLength square (get_or (set kept at length_at) square 0)
    by_place (inl same) = inr (subst (λ (i : ℕ). get_or (set kept i length_at) square 0 ≡ whole_root (10000 * square)) same
        (get_or-set_same kept square length_at 0 within ∙ subst (λ (i : ℕ). length_at ≡ whole_root (10000 * i)) (sym same) is))
    by_place (inr other) = subst (IsKeptLength square) (sym (get_or-set_other kept at square length_at 0 other)) (are square within)

-- a length that is kept
pub kept_found : (kept : List ℕ) (square at : ℕ) (p q : Point) → AreKeptLengths kept → square ≡ square_of p q
    → true ≡ nat_lt square (length kept)
    → at ≡ get_or kept square at → (at ≡ NO_LENGTH → ⊥) → at ≡ length_of p q
unfolding length_of
kept_found kept square at p q are is there found some = by_kind (are square inside)
  where
    inside : square < length kept
    inside = ltb-true square (length kept) (sym there)

    here : at ≡ get_or kept square 0
    here = found ∙ get_or_default_zero kept square at inside

    by_kind : IsKeptLength square (get_or kept square 0) → at ≡ whole_root (10000 * square_of p q)
    by_kind (inl none) = absurd (some (here ∙ none))
    by_kind (inr far) = here ∙ far ∙ ap (λ (n : ℕ). whole_root (10000 * n)) is
