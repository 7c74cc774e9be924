-- Lines that remain.
use Rattle.std.proofs.Common.{◌≡◌, ◌≤◌, ◌<◌, ◌⊎◌, inl, inr, ℕ, zero, suc, ◌+◌, ◌-◌, ◌*◌, ◌^◌, ◌==◌, true, nat_lt, List, [], ◌∷◌, length, get_or, slice_get, slice_set, Some, arith, refl, sym, ◌∙◌, ap, subst}
use Rattle.euler_tour.proofs.Names.{nat_tests, and_from, Edge, one_if, all_below, edge_cost, is_strictly_increasing, edge_ends_at, remaining_ends, remaining_sum, decremented_at, one_of, pass_counts, copies_cost, pass_count, pass_ends, sum_by-cons, edge_sum, first_less, rest_rises, differs, differs_back}

-- taking a line as the code does it
pub less_is : (left : List ℕ) (place : ℕ) → slice_set left place (get_or left place 0 - 1) ≡ decremented_at left place
less_is [] place = refl
less_is (n ∷ left) zero = refl
less_is (n ∷ left) (suc place) = ap (λ (t : List ℕ). n ∷ t) (less_is left place)

-- the number of indexes stays
pub less_length : (left : List ℕ) (place : ℕ) → length (decremented_at left place) ≡ length left
less_length [] place = refl
less_length (n ∷ left) zero = refl
less_length (n ∷ left) (suc place) = ap (λ (k : ℕ). suc k) (less_length left place)

-- what isn't left stays so
pub less_none : (left : List ℕ) (place k : ℕ) → get_or left k 0 ≡ 0 → get_or (decremented_at left place) k 0 ≡ 0
less_none [] place k none = none
less_none (n ∷ left) zero zero none = rw none refl
less_none (n ∷ left) zero (suc k) none = none
less_none (n ∷ left) (suc place) zero none = none
less_none (n ∷ left) (suc place) (suc k) none = less_none left place k none

-- a sum over the lines left, where one is taken
pub left_less : (f : Edge → ℕ) (edges : List Edge) (left : List ℕ) (place : ℕ) (e : Edge) → slice_get edges place ≡ Some e
    → 1 ≤ get_or left place 0 → remaining_sum f edges (decremented_at left place) + f e ≡ remaining_sum f edges left
left_less f [] left place e is some = absurd (cc)
left_less f (x ∷ edges) [] place e is some = absurd (omega arith)
left_less f (x ∷ edges) (n ∷ left) zero e is some =
    let here : x ≡ e = cc in
    subst (λ (y : Edge). ((n - 1) * f x + remaining_sum f edges left) + f y ≡ n * f x + remaining_sum f edges left) here
    (one_less n (f x) (remaining_sum f edges left) some)
  where
    split : (n : ℕ) → 1 ≤ n → n ≡ 1 + (n - 1)
    split n some = omega arith

    added : (y k u : ℕ) → (y * k + u) + k ≡ (1 + y) * k + u
    added y k u = omega arith

    one_less : (n k u : ℕ) → 1 ≤ n → ((n - 1) * k + u) + k ≡ n * k + u
    one_less n k u some = added (n - 1) k u ∙ ap (λ (z : ℕ). z * k + u) (sym (split n some))
left_less f (x ∷ edges) (n ∷ left) (suc place) e is some = grind (arith, nat_tests, left_less f edges left place e is some)

-- nothing is left of a line with an end at a junction where no end is left
pub none_left : (edges : List Edge) (left : List ℕ) (place : ℕ) (e : Edge) (j : ℕ) → slice_get edges place ≡ Some e → 1 ≤ edge_ends_at j e
    → remaining_ends edges left j ≡ 0 → get_or left place 0 ≡ 0
none_left [] left place e j is meets none = absurd (cc)
none_left (x ∷ edges) [] place e j is meets none = refl
none_left (x ∷ edges) (n ∷ left) zero e j is meets none = grind (arith, nat_tests)
none_left (x ∷ edges) (n ∷ left) (suc place) e j is meets none = none_left edges left place e j is meets (omega arith)

-- no end is left at a junction if of each line with an end there nothing is left
pub ends_none : (edges : List Edge) (left : List ℕ) (j : ℕ)
    → ((k : ℕ) (e : Edge) → slice_get edges k ≡ Some e → (get_or left k 0 ≡ 0) ⊎ (edge_ends_at j e ≡ 0)) → remaining_ends edges left j ≡ 0
ends_none [] left j each = refl
ends_none (e ∷ edges) [] j each = refl
ends_none (e ∷ edges) (n ∷ left) j each =
    both n (edge_ends_at j e) _ (each 0 e refl) (ends_none edges left j (λ k. λ x. λ is. each (suc k) x is))
  where
    nothing : (k : ℕ) → 0 * k + 0 ≡ 0
    nothing k = omega arith

    no_times : (n : ℕ) → n * 0 + 0 ≡ 0
    no_times n = omega arith

    both : (n k u : ℕ) → (n ≡ 0) ⊎ (k ≡ 0) → u ≡ 0 → n * k + u ≡ 0
    both n k u (inl none) rest = rw (none, rest) (nothing k)
    both n k u (inr none) rest = rw (none, rest) (no_times n)

-- what is left and what is passed, where one line is taken
pub count_step : (lines left : List ℕ) (place k : ℕ) → is_strictly_increasing lines ≡ true → place < length lines → k < length lines
    → 1 ≤ get_or left place 0 → one_if (get_or lines place 0 == get_or lines k 0) + get_or (decremented_at left place) k 0 ≡ get_or left k 0
count_step [] left place k up bp bk some = absurd (omega arith)
count_step (n ∷ lines) [] place k up bp bk some = absurd (omega arith)
count_step (n ∷ lines) (m ∷ left) zero zero up bp bk some = grind (arith, nat_tests)
count_step (n ∷ lines) (m ∷ left) zero (suc k) up bp bk some = grind (arith, nat_tests, differs, first_less)
count_step (n ∷ lines) (m ∷ left) (suc place) zero up bp bk some = grind (arith, nat_tests, differs_back, first_less)
count_step (n ∷ lines) (m ∷ left) (suc place) (suc k) up bp bk some =
    count_step lines left place k (rest_rises n lines up) (omega arith) (omega arith) some

-- nothing left adds up to nothing
pub sum_none : (f : Edge → ℕ) (edges : List Edge) (left : List ℕ) → ((k : ℕ) → k < length edges → get_or left k 0 ≡ 0)
    → remaining_sum f edges left ≡ 0
sum_none f [] left each = refl
sum_none f (e ∷ edges) [] each = refl
sum_none f (e ∷ edges) (n ∷ left) each =
    both n (f e) _ (each 0 (omega arith)) (sum_none f edges left (λ k. λ below. each (suc k) (omega arith)))
  where
    nothing : (k : ℕ) → 0 * k + 0 ≡ 0
    nothing k = omega arith

    both : (n k u : ℕ) → n ≡ 0 → u ≡ 0 → n * k + u ≡ 0
    both n k u none rest = rw (none, rest) (nothing k)

-- ---- each line once, and once more for each of its copies

-- there are as many times as copies
pub times_length : (copies : List ℕ) → length (pass_counts copies) ≡ length copies
times_length [] = refl
times_length (c ∷ copies) = ap (λ (k : ℕ). suc k) (times_length copies)

-- each is one more
pub times_at : (copies : List ℕ) (k : ℕ) → k < length copies → get_or (pass_counts copies) k 0 ≡ get_or copies k 0 + 1
times_at [] k below = absurd (omega arith)
times_at (c ∷ copies) zero below = refl
times_at (c ∷ copies) (suc k) below = times_at copies k (omega arith)

-- the ends that are left at the beginning are those of all passes
pub times_ends : (edges : List Edge) (copies : List ℕ) (j : ℕ) → remaining_ends edges (pass_counts copies) j ≡ pass_ends edges copies j
times_ends [] copies j = refl
times_ends (e ∷ edges) [] j = refl
times_ends (e ∷ edges) (c ∷ copies) j = rw (times_ends edges copies j) refl

-- what is left at the beginning costs as much as the lines and their copies
pub times_cost : (edges : List Edge) (copies : List ℕ) → length copies ≡ length edges
    → remaining_sum edge_cost edges (pass_counts copies) ≡ edge_sum edge_cost edges + copies_cost edges copies
times_cost [] copies beside = refl
times_cost (e ∷ edges) [] beside = absurd (omega arith)
times_cost (e ∷ edges) (c ∷ copies) beside = grind (arith, nat_tests, times_cost edges copies (omega arith))

-- and it is as many passes
pub times_count : (edges : List Edge) (copies : List ℕ) → length copies ≡ length edges
    → remaining_sum one_of edges (pass_counts copies) ≡ pass_count copies
times_count [] [] beside = refl
times_count [] (c ∷ copies) beside = absurd (omega arith)
times_count (e ∷ edges) [] beside = absurd (omega arith)
times_count (e ∷ edges) (c ∷ copies) beside = omega (arith, times_count edges copies (omega arith), sum_by-cons (λ (n : ℕ). n + 1) c copies)

-- few passes in all are few of each line
pub copies_fit : (copies : List ℕ) → pass_count copies < 2 ^ 32 → all_below 4294967295 copies ≡ true
copies_fit [] few = refl
copies_fit (c ∷ copies) few =
    let parts : pass_count (c ∷ copies) ≡ (c + 1) + pass_count copies = sum_by-cons (λ (n : ℕ). n + 1) c copies in
    and_from (nat_lt c 4294967295) (all_below 4294967295 copies) (less c (omega arith)) (copies_fit copies (omega arith))
  where
    less : (c : ℕ) → c < 4294967295 → nat_lt c 4294967295 ≡ true
    less c h = grind (arith, nat_tests)
