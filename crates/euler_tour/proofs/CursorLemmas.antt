-- The tables of a partial tour.
use Rattle.std.proofs.Common.{◌≡◌, ◌<◌, ◌⊎◌, inl, inr, ℕ, ◌+◌, ◌*◌, ◌/◌, ◌==◌, Bool, true, false, nat_lt, List, [], ◌∷◌, ◌++◌, length, get_or, set, slice_get, Some, arith, refl, ◌∙◌}
use Rattle.euler_tour.proofs.Names.{and_from, and_parts, nat_tests, Edge, all_below, edge_ends_at, remaining_ends, decremented_at, AreBefore, AreLast, AreTourTables}
use Rattle.euler_tour.proofs.LeftLemmas.{ends_none, less_length, less_none}
use Rattle.euler_tour.proofs.CallerLemmas.{all_done, cursors_begin, cursors_skip, cursors_stay}

-- ---- ends that remain

-- no end remains at a junction whose cursor is 0
pub none_remains : (edges : List Edge) (count : ℕ) (left last before out : List ℕ) (at : ℕ)
    → AreTourTables edges count left last before out at → get_or last at 0 ≡ 0 → remaining_ends edges left at ≡ 0
none_remains edges count left last before out at ready none =
    ends_none edges left at (λ k e is. by_ends k e is (e.a == at) (e.b == at) refl refl)
  where
    gone : (k : ℕ) (e : Edge) → slice_get edges k ≡ Some e → ((e.a == at) ≡ true) ⊎ ((e.b == at) ≡ true) → get_or left k 0 ≡ 0
    gone = all_done edges count (λ k. get_or left k 0 ≡ 0) last before at ready.chains none

    by_ends : (k : ℕ) (e : Edge) → slice_get edges k ≡ Some e → (a b : Bool) → (e.a == at) ≡ a → (e.b == at) ≡ b
        → (get_or left k 0 ≡ 0) ⊎ (edge_ends_at at e ≡ 0)
    by_ends k e is true b at_a at_b = inl (gone k e is (inl at_a))
    by_ends k e is false true at_a at_b = inl (gone k e is (inr at_b))
    by_ends k e is false false not_a not_b = inr (rw (not_a, not_b) refl)

-- ---- ends on the way out

-- one more end below a number
pub below_push : (n : ℕ) (xs : List ℕ) (x : ℕ) → all_below n xs ≡ true → x < n → all_below n (xs ++ x ∷ []) ≡ true
below_push n [] x all less = grind (arith, nat_tests)
below_push n (y ∷ xs) x all less =
    let parts = and_parts (nat_lt y n) (all_below n xs) all in
    and_from (nat_lt y n) (all_below n (xs ++ x ∷ [])) parts.0 (below_push n xs x parts.1 less)

-- and one taken off again
pub below_parts : (n : ℕ) (xs : List ℕ) (x : ℕ) → all_below n (xs ++ x ∷ []) ≡ true → (all_below n xs ≡ true) × (x < n)
below_parts n [] x all = grind (arith, nat_tests)
below_parts n (y ∷ xs) x all =
    let parts = and_parts (nat_lt y n) (all_below n (xs ++ x ∷ [])) all in
    let rest = below_parts n xs x parts.1 in
    (and_from (nat_lt y n) (all_below n xs) parts.0 rest.0, rest.1)

-- ---- tables

-- the tables to begin with
pub begins_ready : (edges : List Edge) (count : ℕ) (left last before out : List ℕ) (at : ℕ) → length left ≡ length edges
    → length last ≡ count → length before ≡ 2 * length edges → out ≡ [] → at < count → AreBefore edges before
    → AreLast edges (2 * length edges) last → AreTourTables edges count left last before out at
begins_ready edges count left last before out at is_left is_last is_before is_out below linked are = record {
  left_beside = is_left;
  ends = rw is_out refl;
  chains = cursors_begin edges count (λ k. get_or left k 0 ≡ 0) last before at is_last is_before below linked are;
}

-- the tables after an end is skipped
pub over_ready : (edges : List Edge) (count : ℕ) (left last last2 before out : List ℕ) (at end : ℕ)
    → last2 ≡ set last at (get_or before end 0) → get_or last at 0 ≡ end + 1 → get_or left (end / 2) 0 ≡ 0
    → AreTourTables edges count left last before out at → AreTourTables edges count left last2 before out at
over_ready edges count left last last2 before out at end is_last here none ready = record {
  left_beside = ready.left_beside;
  ends = ready.ends;
  chains = cursors_skip edges count (λ k. get_or left k 0 ≡ 0) last before at last2 end is_last here none ready.chains;
}

-- the tables after a step out
pub out_ready : (edges : List Edge) (count : ℕ) (left left2 last before out out2 : List ℕ) (at end next : ℕ)
    → left2 ≡ decremented_at left (end / 2) → out2 ≡ out ++ end ∷ [] → end < 2 * length edges → next < count
    → AreTourTables edges count left last before out at → AreTourTables edges count left2 last before out2 next
out_ready edges count left left2 last before out out2 at end next is_left is_out within below ready = rw (is_left, is_out) record {
  left_beside = less_length left (end / 2) ∙ ready.left_beside;
  ends = below_push (2 * length edges) out end ready.ends within;
  chains = cursors_stay edges count (λ k. get_or left k 0 ≡ 0) last before at (λ k. get_or (decremented_at left (end / 2)) k 0 ≡ 0) next
      (less_none left (end / 2)) below ready.chains;
}

-- the tables after a step back
pub back_ready : (edges : List Edge) (count : ℕ) (left last before out xs : List ℕ) (at end from : ℕ) → out ≡ xs ++ end ∷ [] → from < count
    → AreTourTables edges count left last before out at → AreTourTables edges count left last before xs from
back_ready edges count left last before out xs at end from is_out below ready = record {
  left_beside = ready.left_beside;
  ends = (below_parts (2 * length edges) xs end (rw is_out at ready.ends)).0;
  chains = cursors_stay edges count (λ k. get_or left k 0 ≡ 0) last before at (λ k. get_or left k 0 ≡ 0) from (λ k none. none) below
      ready.chains;
}
