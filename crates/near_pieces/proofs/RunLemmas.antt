-- Lemmas on runs of pieces of one block, and on spots in the order of their blocks.
use Rattle.std.proofs.Common.{◌≡◌, ◌∙◌, ◌==◌, ◌+◌, ◌≤◌, ◌<◌, ℕ, zero, suc, Bool, true, false, List, [], ◌∷◌, length, take, drop, get_or, nat_le, cond, if◌then◌else◌, refl, sym, subst, ap, arith}
use Rattle.std.specs.List.Sorted.{IsNonDecreasing}
use Rattle.design_model.proofs.ListLemmas.{same_number}
use Rattle.near_pieces.proofs.Names.{nat_tests, and_parts, prefix_len, Piece, block_runs, with_piece, rises_from}

-- The first run has the first piece, and those after it that are of its block.
pub run_split : (p : Piece) (rest : List Piece) → block_runs (p ∷ rest)
    ≡ (p ∷ take (prefix_len (λ (q : Piece). q.block == p.block) rest) rest)
    ∷ block_runs (drop (prefix_len (λ (q : Piece). q.block == p.block) rest) rest)
run_split p [] = refl
run_split p (q ∷ more) = ap (with_piece p) (run_split q more) ∙ choose (q.block == p.block) same_count (run_split q more) where
  of_p : ℕ
  of_p = prefix_len (λ (r : Piece). r.block == p.block) more

  of_q : ℕ
  of_q = prefix_len (λ (r : Piece). r.block == q.block) more

  same_count : (q.block == p.block) ≡ true → of_q ≡ of_p
  same_count is = ap (λ (b : ℕ). prefix_len (λ (r : Piece). r.block == b) more) (same_number q.block p.block is)

  longer : (n : ℕ) → (p ∷ q ∷ take n more) ∷ block_runs (drop n more) ≡ (p ∷ take (1 + n) (q ∷ more)) ∷ block_runs (drop (1 + n) (q ∷ more))
  longer n = subst (λ k. (p ∷ q ∷ take n more) ∷ block_runs (drop n more) ≡ (p ∷ take k (q ∷ more)) ∷ block_runs (drop k (q ∷ more)))
      (let one : suc n ≡ 1 + n = omega arith in one) refl

  choose : (t : Bool) → (t ≡ true → of_q ≡ of_p) → block_runs (q ∷ more) ≡ (q ∷ take of_q more) ∷ block_runs (drop of_q more)
      → (if t then (p ∷ q ∷ take of_q more) ∷ block_runs (drop of_q more)
      else (p ∷ []) ∷ (q ∷ take of_q more) ∷ block_runs (drop of_q more))
      ≡ (p ∷ take (cond t (1 + of_p) 0) (q ∷ more)) ∷ block_runs (drop (cond t (1 + of_p) 0) (q ∷ more))
  choose true same split = ap (λ n. (p ∷ q ∷ take n more) ∷ block_runs (drop n more)) (same refl) ∙ longer of_p
  choose false same split = ap (λ rs. (p ∷ []) ∷ rs) (sym split)

-- The first run of pieces that are split after it.
pub first_run_is : (p : Piece) (pieces front back : List Piece) (d : Piece) → 0 < length pieces → p ≡ get_or pieces 0 d
    → (n : ℕ) → n ≡ prefix_len (λ (q : Piece). q.block == p.block) (drop 1 pieces) → front ≡ take (1 + n) pieces
    → back ≡ drop (1 + n) pieces → block_runs pieces ≡ front ∷ block_runs back
first_run_is p [] front back d some first n count front_is back_is = absurd (omega (arith, some))
first_run_is p (q ∷ rest) front back d some first n count front_is back_is =
    let longer : suc n ≡ 1 + n = omega arith in
    let front_same : front ≡ q ∷ take n rest = front_is ∙ ap (λ k. take k (q ∷ rest)) (sym longer) in
    let back_same : back ≡ drop n rest = back_is ∙ ap (λ k. drop k (q ∷ rest)) (sym longer) in
    let counted : n ≡ prefix_len (λ (r : Piece). r.block == q.block) rest =
    count ∙ ap (λ (one : Piece). prefix_len (λ (r : Piece). r.block == one.block) rest) first in
    run_split q rest ∙ sym (ap (λ f. f ∷ block_runs back) (front_same ∙ ap (λ k. q ∷ take k rest) counted)
    ∙ ap (λ b. (q ∷ take (prefix_len (λ (r : Piece). r.block == q.block) rest) rest) ∷ block_runs b) (back_same
    ∙ ap (λ k. drop k rest) counted))

-- In numbers that rise from one, none is less than that.
at_least : (b : ℕ) (xs : List ℕ) (k d : ℕ) → rises_from b xs ≡ true → k < length xs → b ≤ get_or xs k d
at_least b [] k d rise within = absurd (omega (arith, within))
at_least b (x ∷ xs) zero d rise within = grind (arith, nat_tests, and_parts (nat_le b x) (rises_from x xs) rise)
at_least b (x ∷ xs) (suc k) d rise within =
    let both = and_parts (nat_le b x) (rises_from x xs) rise in
    let first : b ≤ x = grind (arith, nat_tests, both.0) in
    omega (arith, first, at_least x xs k d both.1 (omega (arith, within)))

-- Numbers that rise are in order.
pub rising_in_order : (b : ℕ) (xs : List ℕ) → rises_from b xs ≡ true → IsNonDecreasing xs
rising_in_order b [] rise i j d less within = absurd (omega (arith, within))
rising_in_order b (x ∷ xs) rise zero zero d less within = omega arith
rising_in_order b (x ∷ xs) rise zero (suc j) d less within =
    at_least x xs j d (and_parts (nat_le b x) (rises_from x xs) rise).1 (omega (arith, within))
rising_in_order b (x ∷ xs) rise (suc i) zero d less within = absurd (omega (arith, less))
rising_in_order b (x ∷ xs) rise (suc i) (suc j) d less within =
    rising_in_order x xs (and_parts (nat_le b x) (rises_from x xs) rise).1 i j d (omega (arith, less)) (omega (arith, within))
