-- Junctions that are visited, exhausted, or on the stack, when another line is passed.
use Rattle.std.proofs.Common.{◌≡◌, ◌<◌, ◌⊎◌, ℕ, zero, suc, ◌+◌, ◌==◌, ◌||◌, Bool, true, false, not, List, [], ◌∷◌, ◌++◌, length, get_or, set, slice_get, Some, arith, refl, sym, ◌∙◌}
use Rattle.double_run.proofs.Names.{nat_tests, and_parts, Edge, one_if, edge_cost, pass_end, pass_start, DirectedLeg, remaining_count, edge_at, is_visited, is_on_stack, is_exhausted, passed_cost, has_end_at, eq_self, some_same, edge_sum}
use Rattle.double_run.proofs.LineLemmas.{suc_suc}

-- exhausted junctions stay exhausted
pub spent_on : (passed : List Bool) (edges : List Edge) (m j : ℕ) → is_exhausted passed edges j ≡ true
    → is_exhausted (set passed m true) edges j ≡ true
spent_on [] edges m j is = refl
spent_on (p ∷ passed) [] zero j is = refl
spent_on (p ∷ passed) [] (suc m) j is = refl
spent_on (p ∷ passed) (e ∷ edges) zero j is = (and_parts (p || not (has_end_at e j)) (is_exhausted passed edges j) is).1
spent_on (p ∷ passed) (e ∷ edges) (suc m) j is =
    let parts = and_parts (p || not (has_end_at e j)) (is_exhausted passed edges j) is in
    rw parts.0 (spent_on passed edges m j parts.1)

-- a visited junction was visited before, or is an end of the line that is passed now
pub met_before : (passed : List Bool) (edges : List Edge) (m j : ℕ) (e : Edge) → slice_get edges m ≡ Some e
    → is_visited (set passed m true) edges j ≡ true → (is_visited passed edges j ≡ true) ⊎ (has_end_at e j ≡ true)
met_before [] edges m j e there is = absurd (cc)
met_before (p ∷ passed) [] m j e there is = absurd (cc)
met_before (p ∷ passed) (x ∷ edges) zero j e there is = grind (arith, nat_tests)
met_before (p ∷ passed) (x ∷ edges) (suc m) j e there is = grind (arith, nat_tests, met_before passed edges m j e there)

-- the leg that was gone out last
pub way_push : (edges : List Edge) (out : List DirectedLeg) (leg : DirectedLeg) (j : ℕ)
    → is_on_stack edges (out ++ leg ∷ []) j ≡ (is_on_stack edges out j || (pass_start (edge_at edges leg.place) leg.back == j))
way_push edges [] leg j = grind (arith, nat_tests)
way_push edges (x ∷ out) leg j = grind (arith, nat_tests, way_push edges out leg j)

-- the line that is found at an index is the one there
pub found_at : (edges : List Edge) (m : ℕ) (e : Edge) → slice_get edges m ≡ Some e → edge_at edges m ≡ e
found_at [] m e there = absurd (cc)
found_at (x ∷ edges) zero e there = some_same x e there
found_at (x ∷ edges) (suc m) e there = found_at edges m e there

-- a line that touches a junction has one of its ends there, whichever way it is passed
pub touched : (e : Edge) (back : Bool) (j : ℕ) → has_end_at e j ≡ true → (pass_start e back == j) ≡ false → (pass_end e back == j) ≡ false
    → false ≡ true
touched e true j at first last = sym (rw (last, first) refl) ∙ at
touched e false j at first last = sym (rw (first, last) refl) ∙ at

-- a line more is passed
pub marks : (passed : List Bool) (m k : ℕ) → slice_get passed m ≡ Some false
    → one_if (get_or (set passed m true) k false) ≡ one_if (get_or passed k false) + one_if (m == k)
marks [] m k left = absurd (cc)
marks (p ∷ passed) zero zero left = rw (some_same p false left) refl
marks (p ∷ passed) zero (suc k) left = grind (arith, nat_tests)
marks (p ∷ passed) (suc m) zero left = grind (arith, nat_tests)
marks (p ∷ passed) (suc m) (suc k) left = rw (suc_suc m k) (marks passed m k left)

-- and one less is left
pub less_left : (passed : List Bool) (m : ℕ) → slice_get passed m ≡ Some false
    → remaining_count passed ≡ remaining_count (set passed m true) + 1
less_left [] m left = absurd (cc)
less_left (p ∷ passed) zero left = grind (arith, nat_tests)
less_left (p ∷ passed) (suc m) left = grind (arith, nat_tests, less_left passed m left)

-- and what is passed costs as much more
pub cost_more : (passed : List Bool) (edges : List Edge) (m : ℕ) (e : Edge) → slice_get passed m ≡ Some false → slice_get edges m ≡ Some e
    → passed_cost (set passed m true) edges ≡ e.cost + passed_cost passed edges
cost_more [] edges m e left there = absurd (cc)
cost_more (p ∷ passed) [] m e left there = absurd (cc)
cost_more (true ∷ passed) (x ∷ edges) zero e left there = absurd (cc)
cost_more (false ∷ passed) (x ∷ edges) zero e left there = rw (some_same x e there) refl
cost_more (true ∷ passed) (x ∷ edges) (suc m) e left there = grind (arith, nat_tests, cost_more passed edges m e left there)
cost_more (false ∷ passed) (x ∷ edges) (suc m) e left there = cost_more passed edges m e left there

-- where all are passed it costs what they cost
pub cost_all : (passed : List Bool) (edges : List Edge) → length passed ≡ length edges
    → ((k : ℕ) → k < length edges → get_or passed k false ≡ true) → passed_cost passed edges ≡ edge_sum edge_cost edges
cost_all [] [] beside all = refl
cost_all [] (e ∷ edges) beside all = absurd (omega (arith, beside))
cost_all (p ∷ passed) [] beside all = refl
cost_all (p ∷ passed) (e ∷ edges) beside all =
    rw (all 0 (omega arith), cost_all passed edges (omega (arith, beside)) (λ k. λ below. all (suc k) (omega (arith, below)))) refl

-- a line at an exhausted junction was passed
pub spent_passes : (passed : List Bool) (edges : List Edge) (k j : ℕ) (e : Edge) → length passed ≡ length edges
    → slice_get edges k ≡ Some e → has_end_at e j ≡ true → is_exhausted passed edges j ≡ true → get_or passed k false ≡ true
spent_passes passed [] k j e beside there at is = absurd (cc)
spent_passes [] (x ∷ edges) k j e beside there at is = absurd (omega (arith, beside))
spent_passes (p ∷ passed) (x ∷ edges) zero j e beside there at is = grind (arith, nat_tests)
spent_passes (p ∷ passed) (x ∷ edges) (suc k) j e beside there at is =
    spent_passes passed edges k j e (omega (arith, beside)) there at
    (and_parts (p || not (has_end_at x j)) (is_exhausted passed edges j) is).1

-- the ends of a passed line are visited
pub passed_meets : (passed : List Bool) (edges : List Edge) (k j : ℕ) (e : Edge) → get_or passed k false ≡ true
    → slice_get edges k ≡ Some e → has_end_at e j ≡ true → is_visited passed edges j ≡ true
passed_meets [] edges k j e is there at = absurd (cc)
passed_meets (p ∷ passed) [] k j e is there at = absurd (cc)
passed_meets (p ∷ passed) (x ∷ edges) zero j e is there at = cc
passed_meets (p ∷ passed) (x ∷ edges) (suc k) j e is there at = grind (arith, nat_tests, passed_meets passed edges k j e is there at)

-- both ends of a line touch it
pub touches_a : (e : Edge) → has_end_at e e.a ≡ true
touches_a e = rw (eq_self e.a) refl

pub touches_b : (e : Edge) → has_end_at e e.b ≡ true
touches_b e = grind (arith, nat_tests)
