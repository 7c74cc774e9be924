-- A sweep that changes a row lowers the sum of its numbers.
use Rattle.std.proofs.Common.{◌≡◌, ℕ, ◌+◌, ◌<◌, ◌≤◌, true, false, List, [], ◌∷◌, length, sum, inl, inr, refl, sym, ◌∙◌, arith}
use Rattle.odd_paths.proofs.Names.{nat_tests, cases_Bool, ltb-true, length-set, slice_index, Edge, EndsAreBelow, changes, is_lower, lowered_row, relaxed, relaxes, swept, both_ways, sum_by-set, one_of}
use Rattle.odd_paths.proofs.PlaceLemmas.{still_within}

-- the length stays
lowered_length : (row : List ℕ) (a b c : ℕ) → length (lowered_row row a b c) ≡ length row
lowered_length row a b c = grind (arith, nat_tests, cases_Bool (is_lower row a b c), length-set row b (slice_index row a + c))

relaxed_length : (row : List ℕ) (e : Edge) → length (relaxed row e) ≡ length row
relaxed_length row e = lowered_length (lowered_row row e.a e.b e.cost) e.b e.a e.cost ∙ lowered_length row e.a e.b e.cost

relaxed_most : (row : List ℕ) (e : Edge) → e.a < length row → e.b < length row → sum (relaxed row e) ≤ sum row
relaxed_most row e in_a in_b = grind (arith, nat_tests, lowered_length, cases_Bool, ltb-true, sum_by-set)

relaxed_less : (row : List ℕ) (e : Edge) → e.a < length row → e.b < length row → relaxes row e ≡ true → sum (relaxed row e) < sum row
relaxed_less row e in_a in_b h = grind (arith, nat_tests, lowered_length, one_of, cases_Bool, ltb-true, sum_by-set)

swept_most : (row : List ℕ) (es : List Edge) → EndsAreBelow (length row) es → sum (swept row es) ≤ sum row
swept_most row [] ends = omega arith
swept_most row (e ∷ es) ends =
    let ends_on = still_within es _ _ (sym (relaxed_length row e)) ends.2 in
    omega (arith, relaxed_most row e ends.0 ends.1, swept_most (relaxed row e) es ends_on)

pub swept_less : (row : List ℕ) (es : List Edge) → EndsAreBelow (length row) es → changes row es ≡ true → sum (swept row es) < sum row
swept_less row [] ends h = absurd (both_ways false refl h)
swept_less row (e ∷ es) ends h =
    let ends_on = still_within es _ _ (sym (relaxed_length row e)) ends.2 in
    elim (one_of (relaxes row e) (changes (relaxed row e) es) h) [
      | inl one ↦ omega (arith, relaxed_less row e ends.0 ends.1 one, swept_most (relaxed row e) es ends_on)
      | inr two ↦ omega (arith, relaxed_most row e ends.0 ends.1, swept_less (relaxed row e) es ends_on two)
    ]

pub smaller_new : (es : List Edge) (n : ℕ) (row new : List ℕ) → EndsAreBelow n es → length row ≡ n → new ≡ swept row es
    → changes row es ≡ true → sum new < sum row
smaller_new es n row new ends size value h = grind (arith, nat_tests, swept_less, still_within)
