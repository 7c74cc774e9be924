-- Copies at places of a list.
use Rattle.std.proofs.Common.{◌≡◌, ◌≤◌, ◌<◌, ℕ, zero, suc, ◌+◌, ◌^◌, List, [], ◌∷◌, length, get_or, slice_get, slice_set, All, arith, refl, ap, subst}
use Rattle.route_core.proofs.Names.{nat_tests, All-head, All-tail, Edge, edge_value, AddsCopies, total_copies, copies_sum, incremented_at}

pub more_is : (cs : List ℕ) (k : ℕ) → slice_set cs k (get_or cs k 0 + 1) ≡ incremented_at cs k
more_is [] k = refl
more_is (c ∷ cs) zero = refl
more_is (c ∷ cs) (suc k) = ap (λ (t : List ℕ). c ∷ t) (more_is cs k)

pub get_within : (cs : List ℕ) (k : ℕ) → get_or cs k 0 ≤ total_copies cs
get_within [] k = omega arith
get_within (c ∷ cs) zero = omega arith
get_within (c ∷ cs) (suc k) = let rest : get_or cs k 0 ≤ total_copies cs = get_within cs k in omega arith

pub more_length : (cs : List ℕ) (k : ℕ) → length (incremented_at cs k) ≡ length cs
more_length [] k = refl
more_length (c ∷ cs) zero = refl
more_length (c ∷ cs) (suc k) = ap (λ (n : ℕ). suc n) (more_length cs k)

pub more_up : (cs : List ℕ) (k : ℕ) → k < length cs → total_copies (incremented_at cs k) ≡ total_copies cs + 1
more_up [] k below = absurd (omega arith)
more_up (c ∷ cs) zero below = omega arith
more_up (c ∷ cs) (suc k) below = grind (arith, nat_tests, more_up cs k (omega arith))

pub more_sum : (f : Edge → ℕ) (edges : List Edge) (cs : List ℕ) (k : ℕ) → k < length cs → length edges ≡ length cs
    → copies_sum f edges (incremented_at cs k) ≡ copies_sum f edges cs + edge_value f (slice_get edges k)
more_sum f [] [] k below same = absurd (omega arith)
more_sum f [] (c ∷ cs) k below same = absurd (omega arith)
more_sum f (e ∷ edges) [] k below same = absurd (omega arith)
more_sum f (e ∷ edges) (c ∷ cs) zero below same = omega arith
more_sum f (e ∷ edges) (c ∷ cs) (suc k) below same = grind (arith, nat_tests, more_sum f edges cs k (omega arith) (omega arith))

pub adds_none : (cs places : List ℕ) → places ≡ [] → AddsCopies cs places cs
adds_none cs places is = grind (arith, nat_tests)

pub adds_one : (cs next places rest new : List ℕ) (k : ℕ) → places ≡ k ∷ rest → next ≡ incremented_at cs k → k < length cs
    → AddsCopies next rest new → AddsCopies cs places new
adds_one cs next places rest new k is more below adds = grind (arith, nat_tests, more_length, more_up, more_sum)

-- what is left to add, after one place
pub record Left (cs places : List ℕ) : Type 0 where
  pub there : All (λ k. k < length cs) places
  pub few : total_copies cs + length places < 2 ^ 32

pub left_one : (cs next places rest : List ℕ) (k : ℕ) → places ≡ k ∷ rest → next ≡ incremented_at cs k
    → All (λ k. k < length cs) places → total_copies cs + length places < 2 ^ 32 → Left next rest
left_one cs next places rest k is more there few =
    let here = subst (λ (ps : List ℕ). All (λ k. k < length cs) ps) is there in
    let below = All-head (λ k. k < length cs) k rest here in
    rw more (record {
      there = rw (more_length cs k) (All-tail (λ k. k < length cs) k rest here);
      few = omega (arith, more_up cs k below, ap length is, few);
    })

pub first_below : (cs places rest : List ℕ) (k : ℕ) → places ≡ k ∷ rest → All (λ k. k < length cs) places → k < length cs
first_below cs places rest k is there = All-head (λ k. k < length cs) k rest (subst (λ (ps : List ℕ). All (λ k. k < length cs) ps) is there)
