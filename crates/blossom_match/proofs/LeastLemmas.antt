-- Each perfect matching costs at least half of the total width of the moats.
use Rattle.std.proofs.Common.{◌≡◌, ◌≢◌, ℕ, suc, ◌+◌, ◌-◌, ◌*◌, ◌%◌, ◌<◌, ◌≤◌, ◌⊎◌, inl, inr, List, [], ◌∷◌, length, Bool, true, false, cond, eqb, nat_lt, arith, refl, sym, subst, ◌∙◌}
use Rattle.blossom_match.proofs.Names.{nat_tests, All, AllPairs, eqb-true, lt-ltb, ltb-true, sum_by-cons, count, one_if_equal, pairs_cost, crosses_moat, pair_ends_at, moat_load, width_of, IsOptimalMatching, IsOddMoat, KeepsMoatLoads, IsPerfectMatching, TableValue, entry, Moat, Pair, hit_same, eq-eqb, ne_eqb}
use Rattle.blossom_match.proofs.MoatLemmas.{crossing, true_false}
use Rattle.blossom_match.proofs.CallerLemmas.{ends_below}

abbrev one_if : Bool → ℕ
one_if b = cond b 1 0

hit_sym : (x y : ℕ) → one_if_equal x y ≡ one_if_equal y x
hit_sym x y = grind (arith, nat_tests, true_false, eq-eqb, eqb-true)

-- the ends of the pairs that are among the places
abbrev pub ends_in : List ℕ → List Pair → ℕ
ends_in ms [] = 0
ends_in ms (p ∷ ps) = (count p.a ms + count p.b ms) + ends_in ms ps

-- the ends that each place is, over all places
abbrev pub ends_over : List ℕ → List Pair → ℕ
ends_over [] ps = 0
ends_over (x ∷ xs) ps = pair_ends_at ps x + ends_over xs ps

ends-cons : (p : Pair) (ps : List Pair) (x : ℕ) → pair_ends_at (p ∷ ps) x ≡ (one_if_equal x p.a + one_if_equal x p.b) + pair_ends_at ps x
ends-cons p ps x = sum_by-cons (λ (q : Pair). one_if_equal x q.a + one_if_equal x q.b) p ps

ends_in_none : (ps : List Pair) → ends_in [] ps ≡ 0
ends_in_none [] = refl
ends_in_none (p ∷ ps) = omega (arith, ends_in_none ps)

ends_in-cons : (x : ℕ) (xs : List ℕ) (ps : List Pair) → ends_in (x ∷ xs) ps ≡ pair_ends_at ps x + ends_in xs ps
ends_in-cons x xs [] = refl
ends_in-cons x xs (p ∷ ps) =
    omega (arith, ends-cons p ps x, hit_sym x p.a, hit_sym x p.b, ends_in-cons x xs ps)

-- both count the same ends
same_ends : (ms : List ℕ) (ps : List Pair) → ends_over ms ps ≡ ends_in ms ps
same_ends [] ps = sym (ends_in_none ps)
same_ends (x ∷ xs) ps = omega (arith, ends_in-cons x xs ps, same_ends xs ps)

-- each place is one end
ends_each : (n : ℕ) (ps : List Pair) (ms : List ℕ) → IsPerfectMatching n ps → All (λ x. x < n) ms → ends_over ms ps ≡ length ms
ends_each n ps [] each below = refl
ends_each n ps (x ∷ xs) each below =
    let one : pair_ends_at ps x ≡ 1 = each x ∙ (rw (lt-ltb x n (below 0 x (omega arith))) refl) in
    omega (arith, one, ends_each n ps xs each (λ k d within. below (suc k) d (omega arith)))

-- a place that differs from all of the places is not among them
missing : (x : ℕ) (ys : List ℕ) → All (λ y. x ≢ y) ys → count x ys ≡ 0
missing x [] differs = refl
missing x (y ∷ ys) differs =
    let no : one_if_equal x y ≡ 0 = rw (ne_eqb x y (differs 0 y (omega arith))) refl in
    omega (arith, no, missing x ys (λ k d within. differs (suc k) d (omega arith)))

-- different places are counted once
once_case : (b : Bool) (x y : ℕ) (ys : List ℕ) → eqb x y ≡ b → All (λ z. y ≢ z) ys → count x ys ≤ 1 → cond b 1 0 + count x ys ≤ 1
once_case b x y ys h1 h2 h3 = grind (arith, nat_tests, eqb-true, missing)

once : (ms : List ℕ) → AllPairs (λ x y. x ≢ y) ms → (x : ℕ) → count x ms ≤ 1
once [] differ x = omega arith
once (y ∷ ys) differ x = once_case (eqb x y) x y ys refl (λ k d within. differ 0 (suc k) d (omega arith) (omega arith))
    (once ys (λ i j d below within. differ (suc i) (suc j) d (omega arith) (omega arith)) x)

-- what the pairs pay for a moat
abbrev pub paid_for : Moat → List Pair → ℕ
paid_for m [] = 0
paid_for m (p ∷ ps) = cond (crosses_moat p.a p.b m) m.width 0 + paid_for m ps

-- a pair that does not cross a moat has both ends in it or none
both_or_none : (a b : ℕ) (m : Moat) → count a m.members ≤ 1 → count b m.members ≤ 1 → crosses_moat a b m ≡ false
    → count a m.members ≡ count b m.members
both_or_none a b m fa fb apart =
    let e : one_if (crosses_moat a b m) ≡ 1 * ((count a m.members - count b m.members) + (count b m.members - count a m.members)) =
    crossing a b 1 m.members fa fb in
    let z : 0 ≡ 1 * ((count a m.members - count b m.members) + (count b m.members - count a m.members)) =
    subst (λ (t : Bool). one_if t ≡ 1 * ((count a m.members - count b m.members) + (count b m.members - count a m.members))) apart e in
    omega (arith, z)

-- a moat is paid, or an even number of ends is in it
paid_case : (b : Bool) (m : Moat) (p : Pair) (ps : List Pair) → crosses_moat p.a p.b m ≡ b → ((x : ℕ) → count x m.members ≤ 1)
    → (m.width ≤ paid_for m ps) ⊎ ((k : ℕ) × (ends_in m.members ps ≡ 2 * k))
    → (m.width ≤ cond b m.width 0 + paid_for m ps) ⊎ ((k : ℕ) × (ends_in m.members (p ∷ ps) ≡ 2 * k))
paid_case true m p ps e few rest = inl (omega arith)
paid_case false m p ps e few (inl paid) = inl (omega (arith, paid))
paid_case false m p ps e few (inr (k, even)) =
    inr (count p.a m.members + k, omega (arith, even, both_or_none p.a p.b m (few p.a) (few p.b) e))

paid_or_even : (m : Moat) (ps : List Pair) → ((x : ℕ) → count x m.members ≤ 1)
    → (m.width ≤ paid_for m ps) ⊎ ((k : ℕ) × (ends_in m.members ps ≡ 2 * k))
paid_or_even m [] few = inr (0, refl)
paid_or_even m (p ∷ ps) few = paid_case (crosses_moat p.a p.b m) m p ps refl few (paid_or_even m ps few)

odd_paid : (m : Moat) (ps : List Pair) → ends_in m.members ps % 2 ≡ 1
    → (m.width ≤ paid_for m ps) ⊎ ((k : ℕ) × (ends_in m.members ps ≡ 2 * k)) → m.width ≤ paid_for m ps
odd_paid m ps odd (inl paid) = paid
odd_paid m ps odd (inr (k, even)) = absurd (omega (arith, odd, even))

-- so pairs of all places pay for each odd moat
moat_paid : (n : ℕ) (m : Moat) (ps : List Pair) → IsPerfectMatching n ps → IsOddMoat n m → m.width ≤ paid_for m ps
moat_paid n m ps each is =
    let all : ends_in m.members ps ≡ length m.members = sym (same_ends m.members ps) ∙ ends_each n ps m.members each is.below in
    odd_paid m ps (omega (arith, all, is.odd)) (paid_or_even m ps (once m.members is.different))

-- the loads of all pairs
abbrev pub loads_of : List Moat → List Pair → ℕ
loads_of moats [] = 0
loads_of moats (p ∷ ps) = moat_load moats p.a p.b + loads_of moats ps

load-cons : (m : Moat) (ms : List Moat) (a b : ℕ) → moat_load (m ∷ ms) a b ≡ cond (crosses_moat a b m) m.width 0 + moat_load ms a b
load-cons m ms a b = sum_by-cons (λ (k : Moat). cond (crosses_moat a b k) k.width 0) m ms

loads-cons : (m : Moat) (ms : List Moat) (ps : List Pair) → loads_of (m ∷ ms) ps ≡ paid_for m ps + loads_of ms ps
loads-cons m ms [] = refl
loads-cons m ms (p ∷ ps) = omega (arith, load-cons m ms p.a p.b, loads-cons m ms ps)

widths_paid : (n : ℕ) (moats : List Moat) (ps : List Pair) → IsPerfectMatching n ps → All (IsOddMoat n) moats
    → width_of moats ≤ loads_of moats ps
widths_paid n [] ps each odd = omega arith
widths_paid n (m ∷ ms) ps each odd = omega (
  arith,
  sum_by-cons (λ (k : Moat). k.width) m ms,
  loads-cons m ms ps,
  moat_paid n m ps each (odd 0 m (omega arith)),
  widths_paid n ms ps each (λ k d within. odd (suc k) d (omega arith)),
)

-- and no pair carries more than two halves for each step
loads_cost : (t : TableValue) (moats : List Moat) (ps : List Pair) → KeepsMoatLoads t moats
    → ((x : ℕ) → 1 ≤ pair_ends_at ps x → x < t.places) → loads_of moats ps ≤ 2 * pairs_cost t ps
loads_cost t moats [] keeps below = omega arith
loads_cost t moats (p ∷ ps) keeps below =
    let a = below p.a (omega (arith, ends-cons p ps p.a, hit_same p.a)) in
    let b = below p.b (omega (arith, ends-cons p ps p.b, hit_same p.b)) in
    omega (
      arith,
      sum_by-cons (λ (q : Pair). entry t q.a q.b) p ps,
      keeps p.a p.b a b,
      loads_cost t moats ps keeps (λ x some. below x (omega (arith, some, ends-cons p ps x))),
    )

-- an end of pairs of all places is one of the places
below_case : (b : Bool) (x n e : ℕ) → nat_lt x n ≡ b → e ≡ one_if b → 1 ≤ e → x < n
below_case b x n e h1 h2 h3 = grind (arith, nat_tests, ltb-true)

pub none_cheaper : (t : TableValue) (pairs : List Pair) (moats : List Moat) → IsOptimalMatching t pairs moats
    → (others : List Pair) → IsPerfectMatching t.places others → pairs_cost t pairs ≤ pairs_cost t others
none_cheaper t pairs moats is others each = omega (
  arith,
  is.paid,
  widths_paid t.places moats others each is.odd,
  loads_cost t moats others is.loads (ends_below t.places others each),
)
