-- Each number below NO_WALK is the cost of a walk, and sweeps preserve this.
use Rattle.std.proofs.Common.{◌≡◌, ◌≢◌, ℕ, suc, ◌+◌, ◌<◌, ◌≤◌, List, [], ◌∷◌, ◌++◌, Some, length, replicate, inl, inr, refl, ◌∙◌, get_or-set_same, get_or-set_other, arith}
use Rattle.std.specs.Prelude.{slice_get}
use Rattle.odd_paths.proofs.Names.{nat_tests, cases_eq, cases_lt, get_or-replicate, length-replicate, length-set, slice_index, slice_set, Edge, NO_WALK, EndsAreBelow, Connects, edge_walk_cost, AreWalkCosts, lowered_row, relaxed, swept, get_or_past, IsCost}
use Rattle.odd_paths.proofs.PlaceLemmas.{cost_append, cost_one, walk_append, walk_one}

-- one more edge at the end of a walk
longer : (es : List Edge) (i j m d k : ℕ) (e : Edge) → IsCost es i j d → slice_get es k ≡ Some e → Connects e j m
    → IsCost es i m (d + e.cost)
longer es i j m d k e w got joins =
    let costs : edge_walk_cost es (w.0 ++ k ∷ []) ≡ d + e.cost =
    omega (arith, cost_append es w.0 (k ∷ []), cost_one es k e got, w.2) in
    (w.0 ++ k ∷ [], walk_append es i j m w.0 (k ∷ []) w.1 (walk_one es j m k e got joins), costs)

-- an entry after a write
pub at_same : (row : List ℕ) (b v j : ℕ) → j ≡ b → b < length row → slice_index (slice_set row b v) j ≡ v
at_same row b v j same lt = rw same (get_or-set_same row b v 0 lt)

pub at_other : (row : List ℕ) (b v j : ℕ) → j ≢ b → slice_index (slice_set row b v) j ≡ slice_index row j
at_other row b v j other = get_or-set_other row b j v 0 other

pub most_set : (row : List ℕ) (b v top : ℕ) → b < length row → v ≤ top → ((j : ℕ) → slice_index row j ≤ top) → (j : ℕ)
    → slice_index (slice_set row b v) j ≤ top
most_set row b v top lt le f j = grind (arith, nat_tests, cases_eq, at_same, at_other)

walks_set : (es : List Edge) (n from : ℕ) (row : List ℕ) (b v : ℕ) → b < length row → IsCost es from b v
    → ((j : ℕ) → j < n → slice_index row j < NO_WALK → IsCost es from j (slice_index row j))
    → (j : ℕ) → j < n → slice_index (slice_set row b v) j < NO_WALK → IsCost es from j (slice_index (slice_set row b v) j)
walks_set es n from row b v lt w f j within near = grind (arith, nat_tests, cases_eq, at_same, at_other)

-- one number is lowered
lowered_one : (es : List Edge) (n from k a b : ℕ) (e : Edge) (row : List ℕ) → AreWalkCosts es n from row → slice_get es k ≡ Some e
    → Connects e a b → a < n → b < n → slice_index row a + e.cost < slice_index row b
    → AreWalkCosts es n from (slice_set row b (slice_index row a + e.cost))
lowered_one es n from k a b e row s got joins in_a in_b less =
    let top = s.most b in
    let size = s.size in
    let start = s.start in
    let lt : b < length row = omega arith in
    let cost = longer es from a b (slice_index row a) k e (s.walks a in_a (omega arith)) got joins in
    record {
      size = length-set row b (slice_index row a + e.cost) ∙ s.size;
      start = at_other row b (slice_index row a + e.cost) from (grind (arith, nat_tests, less, start)) ∙ s.start;
      most = most_set row b (slice_index row a + e.cost) NO_WALK lt (omega arith) s.most;
      walks = walks_set es n from row b (slice_index row a + e.cost) lt cost s.walks;
    }

-- where a number is lowered along an edge
lowered_sound : (es : List Edge) (n from k a b : ℕ) (e : Edge) (row : List ℕ) → AreWalkCosts es n from row → slice_get es k ≡ Some e
    → Connects e a b → a < n → b < n → AreWalkCosts es n from (lowered_row row a b e.cost)
lowered_sound es n from k a b e row s got joins in_a in_b =
    grind (arith, nat_tests, lowered_one es n from k a b e row s got joins in_a in_b)

pub relaxed_sound : (es : List Edge) (n from k : ℕ) (e : Edge) (row : List ℕ) → AreWalkCosts es n from row → slice_get es k ≡ Some e
    → e.a < n → e.b < n → AreWalkCosts es n from (relaxed row e)
relaxed_sound es n from k e row s got in_a in_b =
    let forth = lowered_sound es n from k e.a e.b e row s got (inl (refl, refl)) in_a in_b in
    lowered_sound es n from k e.b e.a e (lowered_row row e.a e.b e.cost) forth got (inr (refl, refl)) in_b in_a

-- and along all edges
swept_on : (es : List Edge) (n from : ℕ) (row : List ℕ) (ls : List Edge)
    → ((e : Edge) (i : ℕ) → slice_get ls i ≡ Some e → (k : ℕ) × (slice_get es k ≡ Some e)) → EndsAreBelow n ls
    → AreWalkCosts es n from row → AreWalkCosts es n from (swept row ls)
swept_on es n from row [] f ends s = s
swept_on es n from row (e ∷ ls) f ends s =
    let p = f e 0 refl in
    swept_on es n from (relaxed row e) ls (λ x i h. f x (suc i) h) ends.2 (relaxed_sound es n from p.0 e row s p.1 ends.0 ends.1)

pub swept_sound : (es : List Edge) (n from : ℕ) (row : List ℕ) → EndsAreBelow n es → AreWalkCosts es n from row
    → AreWalkCosts es n from (swept row es)
swept_sound es n from row ends s = swept_on es n from row es (λ e i h. (i, h)) ends s

-- the row with which a search begins
pub get_replicate : (n j v : ℕ) → slice_index (replicate n v) j ≤ v
get_replicate n j v = grind (arith, nat_tests, cases_lt, get_or-replicate, get_or_past, length-replicate)

pub begun : (es : List Edge) (n from : ℕ) → from < n → AreWalkCosts es n from (slice_set (replicate n NO_WALK) from 0)
begun es n from lt =
    let size : length (replicate n NO_WALK) ≡ n = length-replicate n NO_WALK in
    let within : from < length (replicate n NO_WALK) = omega arith in
    record {
      size = length-set (replicate n NO_WALK) from 0 ∙ size;
      start = at_same (replicate n NO_WALK) from 0 from refl within;
      most = most_set (replicate n NO_WALK) from 0 NO_WALK within (omega arith) (λ j. get_replicate n j NO_WALK);
      walks = walks_set es n from (replicate n NO_WALK) from 0 within ([], refl, refl) (no_walk n);
    }
  where
    no_walk : (n j : ℕ) → j < n → slice_index (replicate n NO_WALK) j < NO_WALK → IsCost es from j (slice_index (replicate n NO_WALK) j)
    no_walk n j in_n low = let far = get_or-replicate n j NO_WALK 0 in_n in absurd (omega (arith, far, low))
