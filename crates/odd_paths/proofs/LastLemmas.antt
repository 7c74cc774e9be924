-- A junction other than the start has a line that is the last of a least walk to it.
use Rattle.std.proofs.Common.{◌≡◌, ◌≢◌, ℕ, ◌+◌, ◌^◌, ◌<◌, ◌≤◌, List, [], ◌∷◌, ◌++◌, length, Bool, true, false, Some, None, refl, sym, ◌∙◌, ap, arith, inl, inr, subst, zero, suc, reverse}
use Rattle.std.specs.Prelude.{slice_get}
use Rattle.odd_paths.proofs.Names.{cases_eq, and_parts, slice_get_within, nat_tests, slice_index, if◌then◌else◌, Edge, MAX_LINES, all_costs_positive, edge_cost, edge_value, Connects, IsEdgeWalk, edge_walk_cost, IsLeastRow, EndsAreBelow, IsLeastEdgeWalk, last_edge_from, some_same, reverse-append, nat_le, is_last_edge}
use Rattle.odd_paths.proofs.PlaceLemmas.{below_at, cost_append, cost_one, none_is, walk_append, walk_one}

-- the edge leads from m to j, and costs what their numbers differ by
pub record IsLast (row : List ℕ) (e : Edge) (m j : ℕ) : Type 0 where
  pub links : Connects e m j
  pub costs : slice_index row m + e.cost ≡ slice_index row j

-- such an edge is at that index
abbrev pub Comes : List Edge → List ℕ → ℕ → ℕ → ℕ → Type 0
Comes es row j k m = (e : Edge) × (slice_get es k ≡ Some e) × IsLast row e m j

told_one_way : (row : List ℕ) (e : Edge) (j m : ℕ) → IsLast row e m j → is_last_edge row e.a e.b e.cost j ≡ false
    → is_last_edge row e.b e.a e.cost j ≡ false → ⊥
told_one_way row e j m last forth back = grind (arith, nat_tests)

-- so what the search finds is one
found_in : (row : List ℕ) (j k : ℕ) (es : List Edge) (r : ℕ × ℕ) → last_edge_from row j k es ≡ Some r
    → (i : ℕ) × (r.0 ≡ k + i) × Comes es row j i r.1
found_in row j k [] r h = absurd (none_is r h)
found_in row j k (e ∷ es) r h =
    go (λ more. found_in row j (k + 1) es r more) (is_last_edge row e.a e.b e.cost j) (is_last_edge row e.b e.a e.cost j) refl refl h
  where
    go : (last_edge_from row j (k + 1) es ≡ Some r → (i : ℕ) × (r.0 ≡ (k + 1) + i) × Comes es row j i r.1) → (p q : Bool)
        → is_last_edge row e.a e.b e.cost j ≡ p → is_last_edge row e.b e.a e.cost j ≡ q
        → (if p then Some (k, e.a) else if q then Some (k, e.b) else last_edge_from row j (k + 1) es) ≡ Some r
        → (i : ℕ) × (r.0 ≡ k + i) × Comes (e ∷ es) row j i r.1
    go on true q is other h =
        let same = some_same (k, e.a) r h in
        let from : e.a ≡ r.1 = ap (λ (x : ℕ × ℕ). x.1) same in
        (0, omega (arith, ap (λ (x : ℕ × ℕ). x.0) same), (e, refl, grind (arith, nat_tests, r.1)))
    go on false true is other h =
        let same = some_same (k, e.b) r h in
        let from : e.b ≡ r.1 = ap (λ (x : ℕ × ℕ). x.1) same in
        (0, omega (arith, ap (λ (x : ℕ × ℕ). x.0) same), (e, refl, grind (arith, nat_tests, r.1)))
    go on false false is other h =
        let p = on h in
        (suc p.0, omega (arith, p.1), p.2)

-- and where it finds none, there is none
missed : (row : List ℕ) (j k i m : ℕ) (es : List Edge) → last_edge_from row j k es ≡ None → Comes es row j i m → ⊥
missed row j k i m [] h c = none_is c.0 c.1
missed row j k i m (e ∷ es) h c =
    go (λ l more d. missed row j (k + 1) l m es more d) (is_last_edge row e.a e.b e.cost j) (is_last_edge row e.b e.a e.cost j) refl refl h
    i c
  where
    go : ((l : ℕ) → last_edge_from row j (k + 1) es ≡ None → Comes es row j l m → ⊥) → (p q : Bool)
        → is_last_edge row e.a e.b e.cost j ≡ p → is_last_edge row e.b e.a e.cost j ≡ q
        → (if p then Some (k, e.a) else if q then Some (k, e.b) else last_edge_from row j (k + 1) es) ≡ None
        → (i : ℕ) → Comes (e ∷ es) row j i m → ⊥
    go on true q is other h i c = none_is (k, e.a) (sym h)
    go on false true is other h i c = none_is (k, e.b) (sym h)
    go on false false is other h zero c =
        let last : IsLast row e m j = subst (λ (x : Edge). IsLast row x m j) (sym (some_same e c.0 c.1)) c.2 in
        told_one_way row e j m last is other
    go on false false is other h (suc i) c = on i h c

-- a walk between different junctions has a last line
last_step : (es : List Edge) (i j : ℕ) (ks : List ℕ) → IsEdgeWalk es i j ks → i ≢ j
    → (k : ℕ) × (e : Edge) × (m : ℕ) × (ls : List ℕ) × (slice_get es k ≡ Some e) × Connects e m j × IsEdgeWalk es i m ls
    × (edge_walk_cost es ls + e.cost ≤ edge_walk_cost es ks)
last_step es i j [] w apart = absurd (apart w)
last_step es i j (k ∷ ks) w apart = elim (cases_eq w.1 j) [
  | inl same ↦ (k, w.0, i, [], w.2, subst (λ (x : ℕ). Connects w.0 i x) same w.3, refl, omega (arith, ap (edge_value edge_cost) w.2))
  | inr other ↦
      let p = last_step es w.1 j ks w.4 other in
      (p.0, p.1, p.2, k ∷ p.3, p.4, p.5, (w.0, w.1, w.2, w.3, p.6), omega (arith, p.7))
]

pub more_at : (es : List Edge) (k : ℕ) (e : Edge) → all_costs_positive es ≡ true → slice_get es k ≡ Some e → 1 ≤ e.cost
more_at [] k e costs got = absurd (none_is e got)
more_at (x ∷ xs) zero e costs got = grind (arith, nat_tests)
more_at (x ∷ xs) (suc k) e costs got = more_at xs k e (and_parts (nat_le 1 x.cost) (all_costs_positive xs) costs).1 got

start_of : (n m j : ℕ) (e : Edge) → Connects e m j → (e.a < n) × (e.b < n) → m < n
start_of n m j e (inl p) in_n = omega (arith, p.0, in_n.0)
start_of n m j e (inr p) in_n = omega (arith, p.0, in_n.1)

comes_to : (es : List Edge) (row : List ℕ) (from j : ℕ) → IsLeastRow es (length row) from row → EndsAreBelow (length row) es
    → j < length row → from ≢ j → (k : ℕ) × (m : ℕ) × Comes es row j k m
comes_to es row from j is ends in_n apart =
    let at_j = is.least j in_n in
    let there = at_j.there in
    let p = last_step es from j there.0 there.1 apart in
    let in_m : p.2 < length row = start_of (length row) p.2 j p.1 p.5 (below_at (length row) es p.0 p.1 ends p.4) in
    let at_m = is.least p.2 in_m in
    let back = at_m.there in
    let one : slice_index row p.2 ≤ edge_walk_cost es p.3 = at_m.least p.3 p.6 in
    let whole = walk_append es from p.2 j back.0 (p.0 ∷ []) back.1 (walk_one es p.2 j p.0 p.1 p.4 p.5) in
    let two : slice_index row j ≤ edge_walk_cost es (back.0 ++ p.0 ∷ []) = at_j.least (back.0 ++ p.0 ∷ []) whole in
    let costs : slice_index row p.2 + p.1.cost ≡ slice_index row j =
    omega (arith, cost_append es back.0 (p.0 ∷ []), cost_one es p.0 p.1 p.4, back.2, there.2, p.7) in
    (p.0, p.2, (p.1, p.4, record { links = p.5; costs = costs }))

-- so the search finds one
pub never : (es : List Edge) (row : List ℕ) (from j : ℕ) → IsLeastRow es (length row) from row → EndsAreBelow (length row) es
    → j < length row → from ≢ j → last_edge_from row j 0 es ≡ None → ⊥
never es row from j is ends in_n apart h = let p = comes_to es row from j is ends in_n apart in missed row j 0 p.0 p.1 es h p.2

pub found : (es : List Edge) (row : List ℕ) (j k m : ℕ) → last_edge_from row j 0 es ≡ Some (k, m) → Comes es row j k m
found es row j k m h = let p = found_in row j 0 es (k, m) h in subst (λ (i : ℕ). Comes es row j i m) (sym (p.1 ∙ (omega arith))) p.2

-- one more line in front of the walk
pub record Onward (es : List Edge) (row : List ℕ) (j k m at : ℕ) (ks : List ℕ) : Type 0 where
  pub inside : m < length row
  pub walk : IsEdgeWalk es m j (reverse (ks ++ k ∷ []))
  pub cost : edge_walk_cost es (reverse (ks ++ k ∷ [])) + slice_index row m ≡ slice_index row j
  pub less : slice_index row m < slice_index row at

pub onward : (es : List Edge) (row : List ℕ) (j k m at : ℕ) (ks : List ℕ) → EndsAreBelow (length row) es → all_costs_positive es ≡ true
    → last_edge_from row at 0 es ≡ Some (k, m) → IsEdgeWalk es at j (reverse ks)
    → edge_walk_cost es (reverse ks) + slice_index row at ≡ slice_index row j → Onward es row j k m at ks
onward es row j k m at ks ends costs h w sum = grind (arith, nat_tests, found, reverse-append, start_of, below_at, more_at)

pub place_fits : (es : List Edge) (row : List ℕ) (at k m : ℕ) → length es ≤ MAX_LINES → last_edge_from row at 0 es ≡ Some (k, m)
    → k < 2 ^ 32
place_fits es row at k m few h = let c = found es row at k m h in omega (arith, slice_get_within es k c.0 c.1)

pub arrived : (es : List Edge) (row : List ℕ) (from j at : ℕ) (ks : List ℕ) → IsLeastRow es (length row) from row → from < length row
    → at ≡ from → IsEdgeWalk es at j (reverse ks) → edge_walk_cost es (reverse ks) + slice_index row at ≡ slice_index row j
    → IsLeastEdgeWalk es row from j (reverse ks)
arrived es row from j at ks is in_n same w sum =
    let here = is.least from in_n in
    let none : slice_index row from ≤ 0 = here.least [] refl in
    let e = ap (λ (x : ℕ). slice_index row x) same in
    record { walk = subst (λ (x : ℕ). IsEdgeWalk es x j (reverse ks)) same w; costs = omega arith }
