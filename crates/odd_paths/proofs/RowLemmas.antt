-- A row of walk costs that no sweep changes has the least costs, since the edges connect all junctions.
use Rattle.std.proofs.Common.{◌≡◌, ℕ, ◌+◌, ◌<◌, ◌≤◌, true, false, List, ◌++◌, length, take, drop, replicate, refl, sym, ap, ◌∙◌, subst, arith}
use Rattle.odd_paths.proofs.Names.{nat_tests, ltb-true, nat_lt, slice_index, slice_set, Edge, MAX_COST, edge_cost, edge_sum, NO_WALK, EndsAreBelow, IsGraph, IsLeastRow, IsFullyRelaxed, AreWalkCosts, changes, swept, lt-ltb, NoEdgeLeaves, KeepsWalkCosts, front_written, same_test}
use Rattle.odd_paths.proofs.CoverLemmas.{rises_within}
use Rattle.odd_paths.proofs.PlaceLemmas.{below_at, cost_within}
use Rattle.odd_paths.proofs.SoundLemmas.{begun, swept_sound}
use Rattle.odd_paths.proofs.SweepLemmas.{flat_at, no_less, settled}

near_most : (es : List Edge) (n from : ℕ) (row : List ℕ) → AreWalkCosts es n from row → IsFullyRelaxed row es
    → (i : ℕ) → i < n → slice_index row i < NO_WALK → slice_index row i ≤ edge_sum edge_cost es
near_most es n from row s flat i there near = grind (arith, nat_tests, rises_within)

-- an edge from such a junction leads to such a junction
pass_on : (es : List Edge) (n from : ℕ) (row : List ℕ) → AreWalkCosts es n from row → IsFullyRelaxed row es
    → edge_sum edge_cost es ≤ MAX_COST → (i j c : ℕ) → i < n → c ≤ edge_sum edge_cost es → slice_index row j ≤ slice_index row i + c
    → nat_lt (slice_index row i) NO_WALK ≡ true → nat_lt (slice_index row j) NO_WALK ≡ true
pass_on es n from row s flat small i j c there within rise near =
    let low = near_most es n from row s flat i there (ltb-true _ _ near) in
    lt-ltb _ _ (omega arith)

none_leaves : (es : List Edge) (n from : ℕ) (row : List ℕ) → AreWalkCosts es n from row → IsFullyRelaxed row es → EndsAreBelow n es
    → edge_sum edge_cost es ≤ MAX_COST → NoEdgeLeaves es (λ i. nat_lt (slice_index row i) NO_WALK)
none_leaves es n from row s flat within small k e got = grind (arith, nat_tests, below_at, cost_within, flat_at, same_test, pass_on)

reached : (es : List Edge) (n from : ℕ) (row : List ℕ) → AreWalkCosts es n from row → IsFullyRelaxed row es → IsGraph es n
    → from < n → (j : ℕ) → j < n → slice_index row j < NO_WALK
reached es n from row s flat graph in_n j in_j =
    let closed = none_leaves es n from row s flat graph.ends graph.cost in
    let all = graph.joined (λ i. nat_lt (slice_index row i) NO_WALK) closed from j in_n in_j in
    let start : nat_lt (slice_index row from) NO_WALK ≡ true = rw s.start refl in
    ltb-true _ _ (sym all ∙ start)

-- the row at the end
pub is_row : (es : List Edge) (n from : ℕ) (row : List ℕ) → AreWalkCosts es n from row → IsFullyRelaxed row es → IsGraph es n
    → from < n → IsLeastRow es n from row
is_row es n from row s flat graph in_n = record {
  size = s.size;
  least = λ j in_j. record {
    there = s.walks j in_j (reached es n from row s flat graph in_n j in_j);
    least = λ ks w. (let h = no_less row es from j ks flat w in omega (arith, s.start));
  };
  most = λ j in_j. near_most es n from row s flat j in_j (reached es n from row s flat graph in_n j in_j);
}

-- what a call of the sweep gives
pub settled_row : (es : List Edge) (row : List ℕ) → changes row es ≡ false → IsFullyRelaxed (swept row es) es
settled_row es row h = let p = settled row es h in subst (λ (r : List ℕ). IsFullyRelaxed r es) (sym p.0) p.1

pub after_sweep : (es : List Edge) (n from : ℕ) (row new : List ℕ) → EndsAreBelow n es → new ≡ swept row es → AreWalkCosts es n from row
    → AreWalkCosts es n from new
after_sweep es n from row new ends value s = subst (λ (r : List ℕ). AreWalkCosts es n from r) (sym value) (swept_sound es n from row ends s)

pub settled_new : (es : List Edge) (row new : List ℕ) → new ≡ swept row es → changes row es ≡ false → IsFullyRelaxed new es
settled_new es row new value h = subst (λ (r : List ℕ). IsFullyRelaxed r es) (sym value) (settled_row es row h)

pub last_row : (es : List Edge) (n from len : ℕ) (now new row : List ℕ) → IsGraph es n → from < n
    → now ≡ slice_set row from 0 → row ≡ replicate n NO_WALK → len ≡ n → length new ≡ length now
    → KeepsWalkCosts es now new → IsFullyRelaxed new es → IsLeastRow es n from (take len (new ++ drop (length new) (slice_set row from 0)))
last_row es n from len now new row graph lt is row_is len_is size kept flat =
    let first : now ≡ slice_set (replicate n NO_WALK) from 0 = is ∙ ap (λ (r : List ℕ). slice_set r from 0) row_is in
    let at_start : AreWalkCosts es n from now = subst (λ (r : List ℕ). AreWalkCosts es n from r) (sym first) (begun es n from lt) in
    let whole : length now ≡ n = at_start.size in
    let before : AreWalkCosts es (length now) from now = subst (λ (m : ℕ). AreWalkCosts es m from now) (sym whole) at_start in
    let sound : AreWalkCosts es n from new = subst (λ (m : ℕ). AreWalkCosts es m from new) whole (kept from before) in
    subst (λ (r : List ℕ). IsLeastRow es n from r) (sym (front_written len new (slice_set row from 0) (size ∙ whole ∙ sym len_is)))
    (is_row es n from new sound flat graph lt)
