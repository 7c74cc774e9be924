-- The ends of lines: their linked lists and cursors.
use Rattle.std.proofs.Common.{◌≡◌, ◌<◌, ◌⊎◌, inl, inr, ℕ, ◌+◌, ◌*◌, List, [], ◌∷◌, ◌++◌, length, get_or, set, slice_get, Some, arith, sym, ◌∙◌, ap, subst, length-set, length-append, get_or-set_same, get_or-set_other}
use Rattle.euler_tour.proofs.Names.{cases_eq, nat_tests, Edge, AreBefore, AreLast, IsLast, junction_at, some_same, get_or_append_left, get_or_push}
use Rattle.euler_tour.proofs.CallerLemmas.{end_a, end_b}

-- ---- chains

-- the last end at the junction of a new end is that end
last_of_new : (edges : List Edge) (j count : ℕ) → junction_at edges count ≡ Some j → IsLast edges j (count + 1) (count + 1)
last_of_new edges j count is = grind (arith, nat_tests)

-- elsewhere it stays
last_of_old : (edges : List Edge) (i j count number : ℕ) → junction_at edges count ≡ Some j → (i ≡ j → ⊥) → IsLast edges i count number
    → IsLast edges i (count + 1) number
last_of_old edges i j count number is other last = grind (arith, nat_tests)

-- the last ends, with one more
pub last_step : (edges : List Edge) (last : List ℕ) (j count : ℕ) → junction_at edges count ≡ Some j → j < length last
    → AreLast edges count last → AreLast edges (count + 1) (set last j (count + 1))
last_step edges last j count is there are i below = by_junction (cases_eq i j)
  where
    by_junction : (i ≡ j) ⊎ (i ≡ j → ⊥) → IsLast edges i (count + 1) (get_or (set last j (count + 1)) i 0)
    by_junction (inl here) =
        subst (λ (n : ℕ). IsLast edges n (count + 1) (get_or (set last j (count + 1)) n 0)) (sym here)
        (rw (get_or-set_same last j (count + 1) 0 there) (last_of_new edges j count is))
    by_junction (inr other) =
        rw (get_or-set_other last j i (count + 1) 0 other)
        (last_of_old edges i j count (get_or last i 0) is other (are i (subst (λ (n : ℕ). i < n) (length-set last j (count + 1)) below)))

-- and the ends before them
pub before_step : (edges : List Edge) (before : List ℕ) (j number : ℕ) → junction_at edges (length before) ≡ Some j
    → IsLast edges j (length before) number → AreBefore edges before → AreBefore edges (before ++ number ∷ [])
before_step edges before j number is last are end i below there =
    by_place (cases_eq end (length before)) (omega (arith, length-append before (number ∷ []), below))
  where
    less : (m n : ℕ) → (m ≡ n → ⊥) → m < n + 1 → m < n
    less m n differs h = grind (arith, nat_tests, differs)

    by_place : (end ≡ length before) ⊎ (end ≡ length before → ⊥) → end < length before + 1
        → IsLast edges i end (get_or (before ++ number ∷ []) end 0)
    by_place (inl new) high =
        let one : i ≡ j = some_same i j (sym there ∙ ap (λ (n : ℕ). junction_at edges n) new ∙ is) in
        rw (get_or_push before number 0 end (sym new)) (subst (λ (n : ℕ). IsLast edges n end number) (sym one)
        (subst (λ (n : ℕ). IsLast edges j n number) (sym new) last))
    by_place (inr old) high =
        let low : end < length before = less end (length before) old high in
        rw (get_or_append_left before (number ∷ []) 0 end low) (are end i low there)

-- the ends of one more line
pub chain_step : (edges : List Edge) (k : ℕ) (e : Edge) (last last1 last2 before before1 before2 : List ℕ) → slice_get edges k ≡ Some e
    → e.a < length last → e.b < length last → length before ≡ 2 * k → last1 ≡ set last e.a (length before + 1)
    → before1 ≡ before ++ get_or last e.a 0 ∷ [] → last2 ≡ set last1 e.b (length before1 + 1) → before2 ≡ before1 ++ get_or last1 e.b 0 ∷ []
    → AreLast edges (2 * k) last → AreBefore edges before
    → AreLast edges (2 * (k + 1)) last2 × AreBefore edges before2 × (length last2 ≡ length last) × (length before2 ≡ 2 * (k + 1))
chain_step edges k e last last1 last2 before before1 before2 is has_a has_b sized is_last1 is_before1 is_last2 is_before2 are linked = (
  subst (λ (n : ℕ). AreLast edges n last2) (four (length before) (length before1) k sized more1)
      (rw is_last2 (last_step edges last1 e.b (length before1) at_b has_b1 are1)),
  rw is_before2 (before_step edges before1 e.b (get_or last1 e.b 0) at_b (are1 e.b has_b1) linked1),
  ap (λ (xs : List ℕ). length xs) is_last2 ∙ length-set last1 e.b (length before1 + 1) ∙ same_length,
  ap (λ (xs : List ℕ). length xs) is_before2 ∙ length-append before1 (get_or last1 e.b 0 ∷ []) ∙ four (length before) (length before1) k
      sized more1,
)
  where
    same_length : length last1 ≡ length last
    same_length = ap (λ (xs : List ℕ). length xs) is_last1 ∙ length-set last e.a (length before + 1)

    more1 : length before1 ≡ length before + 1
    more1 = ap (λ (xs : List ℕ). length xs) is_before1 ∙ length-append before (get_or last e.a 0 ∷ [])

    at_a : junction_at edges (length before) ≡ Some e.a
    at_a = ap (λ (n : ℕ). junction_at edges n) sized ∙ end_a edges k e is

    at_b : junction_at edges (length before1) ≡ Some e.b
    at_b = ap (λ (n : ℕ). junction_at edges n) (more1 ∙ ap (λ (n : ℕ). n + 1) sized) ∙ end_b edges k e is

    has_b1 : e.b < length last1
    has_b1 = subst (λ (n : ℕ). e.b < n) (sym same_length) has_b

    here : AreLast edges (length before) last
    here = subst (λ (n : ℕ). AreLast edges n last) (sym sized) are

    are1 : AreLast edges (length before1) last1
    are1 = rw (more1, is_last1) (last_step edges last e.a (length before) at_a has_a here)

    linked1 : AreBefore edges before1
    linked1 = rw is_before1 (before_step edges before e.a (get_or last e.a 0) at_a (here e.a has_a) linked)

    four : (m n k : ℕ) → m ≡ 2 * k → n ≡ m + 1 → n + 1 ≡ 2 * (k + 1)
    four m n k is more = omega arith

pub none_before : (edges : List Edge) → AreBefore edges []
none_before edges end j below there = absurd (omega (arith, below))
