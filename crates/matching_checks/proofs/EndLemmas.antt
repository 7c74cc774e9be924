-- The ends of pairs, how many pairs there are, and what they cost at most.
use Rattle.std.proofs.Common.{◌≡◌, ◌==◌, ℕ, suc, zero, ◌+◌, ◌*◌, ◌<◌, ◌≤◌, List, [], ◌∷◌, length, get_or, nat_lt, if◌then◌else◌, arith, refl}
use Rattle.std.proofs.lemmas.Bool.{cond_both, eq-eqb, lt-ltb, ltb-false, ltb-true, ne_eqb}
use Rattle.std.proofs.lemmas.List.Sums.{get_or-le-sum_by, sum_by-cons, sum_by-le}
use Rattle.blossom_match.specs.declared.matching.Pair.{Pair}
use Rattle.blossom_match.specs.Matchings.{pairs_cost, pair_ends_at, IsPerfectMatching}
use Rattle.odd_sets.specs.Tables.{entry, IsTable}
use Rattle.odd_sets.specs.TableValue.{TableValue}
use Rattle.matching_checks.specs.Ends.{EndsBelow}

-- a number that is an end is a place
end_low : (n x ends : ℕ) → ends ≡ (if nat_lt x n then 1 else 0) → 1 ≤ ends → x < n
end_low n x ends is some =
    cond_both (nat_lt x n) 1 0 (λ (k : ℕ). 1 ≤ k → x < n) (λ low more. ltb-true x n low) (λ high more. absurd (omega arith))
    (omega (arith, is, some))

-- a pair's ends are ends
a_end : (p : Pair) → 1 ≤ (if p.a == p.a then 1 else 0) + (if p.a == p.b then 1 else 0)
a_end p = rw (eq-eqb p.a p.a refl) (omega arith)

b_end : (p : Pair) → 1 ≤ (if p.b == p.a then 1 else 0) + (if p.b == p.b then 1 else 0)
b_end p = rw (eq-eqb p.b p.b refl) (omega arith)

-- where each place is an end once, and no other number is, all ends are places
pub ends_below : (n : ℕ) (pairs : List Pair) → IsPerfectMatching n pairs → EndsBelow n pairs
ends_below n pairs each k d low =
    let p : Pair = get_or pairs k d in
    let ends = λ (x : ℕ). get_or-le-sum_by (λ (q : Pair). (if x == q.a then 1 else 0) + (if x == q.b then 1 else 0)) pairs k d low in
    (end_low n p.a _ (each p.a) (omega (arith, a_end p, ends p.a)), end_low n p.b _ (each p.b) (omega (arith, b_end p, ends p.b)))

-- no end is a place from n on
none_beyond : (n x : ℕ) (pairs : List Pair) → EndsBelow n pairs → n ≤ x → pair_ends_at pairs x ≡ 0
none_beyond n x pairs below far =
    let none = sum_by-le (λ (p : Pair). (if x == p.a then 1 else 0) + (if x == p.b then 1 else 0)) 0 pairs
    (λ k d low. let b = below k d low in grind arith) in
    omega arith

-- where each place is an end once, and no other number is
pub ends_each : (n x : ℕ) (pairs : List Pair) → EndsBelow n pairs → ((z : ℕ) → z < n → pair_ends_at pairs z ≡ 1)
    → pair_ends_at pairs x ≡ (if nat_lt x n then 1 else 0)
ends_each n x pairs below once =
    cond_both (nat_lt x n) 1 0 (λ (k : ℕ). pair_ends_at pairs x ≡ k) (λ is. once x (ltb-true x n is))
    (λ is. none_beyond n x pairs below (ltb-false x n is))

-- how many of the numbers below n are a
abbrev hits : ℕ → ℕ → ℕ
hits a zero = 0
hits a (suc n) = (if n == a then 1 else 0) + hits a n

-- a from n on is none, and below n it is one
hit_none : (a n : ℕ) → n ≤ a → hits a n ≡ 0
hit_none a zero far = refl
hit_none a (suc n) far = rw (ne_eqb n a (λ same. omega arith)) (omega (arith, hit_none a n (omega arith)))

hit_once : (a n : ℕ) → a < n → hits a n ≡ 1
hit_once a zero low = absurd (omega arith)
hit_once a (suc n) low = grind (arith, hit_none a n, hit_once a n)

-- the ends at places below n
abbrev ends_to : ℕ → List Pair → ℕ
ends_to zero pairs = 0
ends_to (suc n) pairs = pair_ends_at pairs n + ends_to n pairs

-- no pair has no end, and one more pair has its two
ends_none : (n : ℕ) → ends_to n [] ≡ 0
ends_none zero = refl
ends_none (suc n) = omega (arith, ends_none n)

ends_more : (n : ℕ) (p : Pair) (ps : List Pair) → ends_to n (p ∷ ps) ≡ hits p.a n + hits p.b n + ends_to n ps
ends_more zero p ps = refl
ends_more (suc n) p ps =
    omega (arith, ends_more n p ps, sum_by-cons (λ (q : Pair). (if n == q.a then 1 else 0) + (if n == q.b then 1 else 0)) p ps)

-- two for each pair
ends_twice : (n : ℕ) (pairs : List Pair) → EndsBelow n pairs → ends_to n pairs ≡ 2 * length pairs
ends_twice n [] below = ends_none n
ends_twice n (p ∷ ps) below =
    let here = below 0 p (omega arith) in
    let others = ends_twice n ps (λ k d low. below (suc k) d (omega arith)) in
    omega (arith, ends_more n p ps, hit_once p.a n here.0, hit_once p.b n here.1, others)

-- one for each place
ends_all : (n m : ℕ) (pairs : List Pair) → m ≤ n → IsPerfectMatching n pairs → ends_to m pairs ≡ m
ends_all n zero pairs low each = refl
ends_all n (suc m) pairs low each =
    let one = rw (lt-ltb m n (omega arith)) at (each m) in
    omega (arith, one, ends_all n m pairs (omega arith) each)

-- there are half as many pairs as places
pairs_count : (n : ℕ) (pairs : List Pair) → IsPerfectMatching n pairs → 2 * length pairs ≡ n
pairs_count n pairs each = omega (arith, ends_twice n pairs (ends_below n pairs each), ends_all n n pairs (omega arith) each)

-- the cost is far below what fits
pub cost_fits : (t : TableValue) (pairs : List Pair) → IsTable t → IsPerfectMatching t.places pairs → pairs_cost t pairs ≤ 1024 * 200000
cost_fits t pairs table each =
    let below = ends_below t.places pairs each in
    let most = sum_by-le (λ (p : Pair). entry t p.a p.b) 200000 pairs
    (λ k d low. table.short _ _ (below k d low).0 (below k d low).1) in
    omega (arith, most, table.few, pairs_count t.places pairs each)
