-- Walks end to end.
use Rattle.std.proofs.Common.{◌≡◌, true, ℕ, zero, suc, ◌+◌, ◌<◌, ◌≤◌, length, get_or, List, [], ◌∷◌, ◌++◌, Some, None, refl, sym, ap, arith, inl, inr, subst}
use Rattle.std.specs.Prelude.{slice_get}
use Rattle.odd_paths.proofs.Names.{ltb-true, nat_lt, Edge, edge_cost, edge_sum, EndsAreBelow, Connects, IsEdgeWalk, edge_walk_cost, some_same}

pub walk_append : (es : List Edge) (i j m : ℕ) (ks ls : List ℕ) → IsEdgeWalk es i j ks → IsEdgeWalk es j m ls → IsEdgeWalk es i m (ks ++ ls)
walk_append es i j m [] ls w v = subst (λ (x : ℕ). IsEdgeWalk es x m ls) (sym w) v
walk_append es i j m (k ∷ ks) ls w v = (w.0, w.1, w.2, w.3, walk_append es w.1 j m ks ls w.4 v)

pub cost_append : (es : List Edge) (ks ls : List ℕ) → edge_walk_cost es (ks ++ ls) ≡ edge_walk_cost es ks + edge_walk_cost es ls
cost_append es [] ls = omega arith
cost_append es (k ∷ ks) ls = omega (arith, cost_append es ks ls)

turned : (e : Edge) (i j : ℕ) → Connects e i j → Connects e j i
turned e i j (inl p) = inr (p.1, p.0)
turned e i j (inr p) = inl (p.1, p.0)

pub walk_one : (es : List Edge) (i j k : ℕ) (e : Edge) → slice_get es k ≡ Some e → Connects e i j → IsEdgeWalk es i j (k ∷ [])
walk_one es i j k e got joins = (e, j, got, joins, refl)

pub cost_one : (es : List Edge) (k : ℕ) (e : Edge) → slice_get es k ≡ Some e → edge_walk_cost es (k ∷ []) ≡ e.cost
cost_one es k e got = rw got (omega arith)

-- a walk back, of the same cost
pub walk_back : (es : List Edge) (i j : ℕ) (ks : List ℕ) → IsEdgeWalk es i j ks
    → (ls : List ℕ) × IsEdgeWalk es j i ls × (edge_walk_cost es ls ≡ edge_walk_cost es ks)
walk_back es i j [] w = ([], sym w, refl)
walk_back es i j (k ∷ ks) w =
    let p = walk_back es w.1 j ks w.4 in
    let home = walk_one es w.1 i k w.0 w.2 (turned w.0 i w.1 w.3) in
    let costs : edge_walk_cost es (p.0 ++ k ∷ []) ≡ edge_walk_cost es (k ∷ ks) = omega (arith, cost_append es p.0 (k ∷ []), p.2) in
    (p.0 ++ k ∷ [], walk_append es j w.1 i p.0 (k ∷ []) p.1 home, costs)

pub none_is : {A : Type 0} (x : A) → None ≡ Some x → ⊥
none_is x h = cc

-- the ends and the cost of the edge at an index
pub below_at : (n : ℕ) (es : List Edge) (k : ℕ) (e : Edge) → EndsAreBelow n es → slice_get es k ≡ Some e → (e.a < n) × (e.b < n)
below_at n [] k e ends got = absurd (none_is e got)
below_at n (x ∷ xs) zero e ends got = subst (λ (z : Edge). (z.a < n) × (z.b < n)) (some_same x e got) (ends.0, ends.1)
below_at n (x ∷ xs) (suc k) e ends got = below_at n xs k e ends.2 got

pub cost_within : (es : List Edge) (k : ℕ) (e : Edge) → slice_get es k ≡ Some e → e.cost ≤ edge_sum edge_cost es
cost_within [] k e got = absurd (none_is e got)
cost_within (x ∷ xs) zero e got = let same = ap edge_cost (some_same x e got) in omega arith
cost_within (x ∷ xs) (suc k) e got = omega (arith, cost_within xs k e got)

pub still_within : (es : List Edge) (n m : ℕ) → n ≡ m → EndsAreBelow n es → EndsAreBelow m es
still_within es n m same ends = subst (λ (k : ℕ). EndsAreBelow k es) same ends

-- the edge that a look-up finds
got_at : (es : List Edge) (k : ℕ) (e : Edge) → k < length es → e ≡ get_or es k e → slice_get es k ≡ Some e
got_at [] k e there is = absurd (omega (arith, there))
got_at (x ∷ xs) zero e there is = ap (λ (z : Edge). Some z) (sym is)
got_at (x ∷ xs) (suc k) e there is = got_at xs k e (omega (arith, there)) is

pub looked_up : (es : List Edge) (k : ℕ) (e : Edge) → true ≡ nat_lt k (length es) → e ≡ get_or es k e → slice_get es k ≡ Some e
looked_up es k e there is = got_at es k e (ltb-true _ _ (sym there)) is
