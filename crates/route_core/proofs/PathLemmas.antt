-- Paths by the places of their lines, and the ends of their passes.
use Rattle.std.proofs.Common.{◌≡◌, ◌≤◌, ◌<◌, ℕ, zero, suc, ◌+◌, ◌*◌, ◌%◌, ◌^◌, ◌==◌, Bool, true, false, cond, nat_le, List, [], ◌∷◌, length, map, get_or, slice_get, Option, Some, None, All, arith, refl, sym, ◌∙◌, subst}
use Rattle.route_core.proofs.Names.{nat_tests, and_parts, All-head, All-tail, Pair, Edge, Pass, IsValidPiece, PieceValue, one_if, after_edge, edge_cost, edge_of, edge_value, pass_sum, walk_end_from, RowsValue, cost_at, terminal_of, AddsPairs, AddsCopies, total_copies, copies_sum, edge_end_count, lost, eq_self, all_costs_positive, pass_end, is_strictly_increasing, pass_start, IsPath, lines_at_indexes, index_sum, above_at}
use native.Mathlib.Nat.{le-mul_of_pos_right}

-- the edge of the line at a place
pub edge_at : (ns : List ℕ) (es : List Edge) (k : ℕ) → is_strictly_increasing ns ≡ true → length ns ≡ length es → k < length ns
    → edge_of ns es (get_or ns k 0) ≡ slice_get es k
edge_at [] es k up same below = absurd (omega arith)
edge_at (n ∷ ns) [] k up same below = absurd (omega arith)
edge_at (n ∷ ns) (e ∷ es) zero up same below = rw (eq_self n) refl
edge_at (n ∷ ns) (e ∷ es) (suc k) up same below = grind (arith, nat_tests, edge_at ns es k, above_at, and_parts)

-- a sum over the passes of a walk is a sum over the places of its lines
pub path_sum : (p : PieceValue) → IsValidPiece p → (f : Edge → ℕ) (walk : List Pass) (places : List ℕ)
    → map (λ (pass : Pass). pass.line) walk ≡ lines_at_indexes p places → All (λ k. k < length p.lines) places
    → pass_sum p.lines p.edges f walk ≡ index_sum f p.edges places
path_sum p kept f [] [] along there = refl
path_sum p kept f [] (k ∷ places) along there = absurd (cc)
path_sum p kept f (pass ∷ walk) [] along there = absurd (cc)
path_sum p kept f (pass ∷ walk) (k ∷ places) along there =
    let first : pass.line ≡ get_or p.lines k 0 = cc in
    let rest : map (λ (pass : Pass). pass.line) walk ≡ lines_at_indexes p places = cc in
    rw (
      first,
      edge_at p.lines p.edges k kept.rising kept.beside (All-head (λ k. k < length p.lines) k places there),
      path_sum p kept f walk places rest (All-tail (λ k. k < length p.lines) k places there),
    ) refl

-- a junction is an end of an even number of passes, its ends of the walk counted with them
pub walk_ends : (ns : List ℕ) (es : List Edge) (v : ℕ) (ps : List Pass) (at to : ℕ) → walk_end_from ns es (Some at) ps ≡ Some to
    → ((pass_sum ns es (edge_end_count v) ps + one_if (at == v)) + one_if (to == v)) % 2 ≡ 0
walk_ends ns es v [] at to is = grind (arith, nat_tests)
walk_ends ns es v (p ∷ ps) at to is = by_edge (edge_of ns es p.line) is (λ k. λ h. walk_ends ns es v ps k to h)
  where
    joined : (s i j t : ℕ) → ((s + j) + t) % 2 ≡ 0 → ((((i + j) + s) + i) + t) % 2 ≡ 0
    joined s i j t rest = omega arith

    joined_back : (s i j t : ℕ) → ((s + j) + t) % 2 ≡ 0 → ((((j + i) + s) + i) + t) % 2 ≡ 0
    joined_back s i j t rest = omega arith

    passed : (e : Edge) (back : Bool) → ((pass_sum ns es (edge_end_count v) ps + one_if (pass_end e back == v)) + one_if (to == v)) % 2 ≡ 0
        → (((edge_end_count v e + pass_sum ns es (edge_end_count v) ps) + one_if (pass_start e back == v)) + one_if (to == v)) % 2 ≡ 0
    passed e false rest = joined (pass_sum ns es (edge_end_count v) ps) (one_if (e.a == v)) (one_if (e.b == v)) (one_if (to == v)) rest
    passed e true rest = joined_back (pass_sum ns es (edge_end_count v) ps) (one_if (e.b == v)) (one_if (e.a == v)) (one_if (to == v)) rest

    same : (m n : ℕ) → (m == n) ≡ true → m ≡ n
    same m n is = grind (arith, nat_tests)

    by_start : (e : Edge) (t : Bool) → (pass_start e p.back == at) ≡ t
        → walk_end_from ns es (cond t (Some (pass_end e p.back)) None) ps ≡ Some to
        → ((k : ℕ) → walk_end_from ns es (Some k) ps ≡ Some to
        → ((pass_sum ns es (edge_end_count v) ps + one_if (k == v)) + one_if (to == v)) % 2 ≡ 0)
        → (((edge_end_count v e + pass_sum ns es (edge_end_count v) ps) + one_if (at == v)) + one_if (to == v)) % 2 ≡ 0
    by_start e true test is rest =
        subst (λ (k : ℕ). (((edge_end_count v e + pass_sum ns es (edge_end_count v) ps) + one_if (k == v)) + one_if (to == v)) % 2 ≡ 0)
        (same (pass_start e p.back) at test)
        (passed e p.back (rest (pass_end e p.back) is))
    by_start e false test is rest = absurd (lost ns es ps to is)

    by_edge : (found : Option Edge) → walk_end_from ns es (after_edge found p.back at) ps ≡ Some to
        → ((k : ℕ) → walk_end_from ns es (Some k) ps ≡ Some to
        → ((pass_sum ns es (edge_end_count v) ps + one_if (k == v)) + one_if (to == v)) % 2 ≡ 0)
        → (((edge_value (edge_end_count v) found + pass_sum ns es (edge_end_count v) ps) + one_if (at == v)) + one_if (to == v)) % 2 ≡ 0
    by_edge None is rest = absurd (lost ns es ps to is)
    by_edge (Some e) is rest = by_start e (pass_start e p.back == at) refl is rest

-- copies are no more than they cost
pub up_within : (es : List Edge) (cs : List ℕ) → all_costs_positive es ≡ true → length cs ≡ length es
    → total_copies cs ≤ copies_sum edge_cost es cs
up_within [] [] costs same = omega arith
up_within [] (c ∷ cs) costs same = absurd (omega arith)
up_within (e ∷ es) [] costs same = absurd (omega arith)
up_within (e ∷ es) (c ∷ cs) costs same =
    let parts = and_parts (nat_le 1 e.cost) (all_costs_positive es) costs in
    added c e.cost (total_copies cs) (copies_sum edge_cost es cs) (some e.cost parts.0) (up_within es cs parts.1 (omega arith))
  where
    some : (k : ℕ) → nat_le 1 k ≡ true → 1 ≤ k
    some k is = grind (arith, nat_tests)

    times : (c k : ℕ) → 1 ≤ k → c ≤ c * k
    times c k some = le-mul_of_pos_right c some

    added : (c k u v : ℕ) → 1 ≤ k → u ≤ v → c + u ≤ c * k + v
    added c k u v one rest = let more : c ≤ c * k = times c k one in omega arith

cost_at_place : (es : List Edge) (k : ℕ) → all_costs_positive es ≡ true → k < length es → 1 ≤ edge_value edge_cost (slice_get es k)
cost_at_place [] k costs below = absurd (omega arith)
cost_at_place (e ∷ es) zero costs below = grind (arith, nat_tests)
cost_at_place (e ∷ es) (suc k) costs below = cost_at_place es k (and_parts (nat_le 1 e.cost) (all_costs_positive es) costs).1 (omega arith)

-- places are no more than their lines cost
pub places_within : (es : List Edge) (places : List ℕ) → all_costs_positive es ≡ true → All (λ k. k < length es) places
    → length places ≤ index_sum edge_cost es places
places_within es [] costs there = omega arith
places_within es (k ∷ places) costs there =
    let one = cost_at_place es k costs (All-head (λ k. k < length es) k places there) in
    omega (arith, one, places_within es places costs (All-tail (λ k. k < length es) k places there))

-- and there is room for them
pub path_room : (p : PieceValue) → IsValidPiece p → (i j cost : ℕ) (places cs : List ℕ) → length cs ≡ length p.edges
    → IsPath p i j cost places → copies_sum edge_cost p.edges cs + (cost + 0) < 2 ^ 32 → total_copies cs + length places < 2 ^ 32
path_room p kept i j cost places cs sized path few =
    let there : All (λ k. k < length p.edges) places = subst (λ (n : ℕ). All (λ k. k < n) places) kept.beside path.there in
    let up = up_within p.edges cs kept.costs sized in
    let long = places_within p.edges places kept.costs there in
    omega (arith, up, long, path_sum p kept edge_cost path.walk places path.along path.there, path.costs, few)

-- copies for one pair
pub adds_pair : (p : PieceValue) → IsValidPiece p → (rows : RowsValue) (q : Pair) (old new places : List ℕ) → length old ≡ length p.edges
    → IsPath p (terminal_of rows q.a) (terminal_of rows q.b) (cost_at rows q.a (terminal_of rows q.b)) places
    → AddsCopies old places new → AddsPairs p rows (q ∷ []) old new
adds_pair p kept rows q old new places sized path adds = record {
  sized = adds.sized;
  costs = costs (copies_sum edge_cost p.edges new) (copies_sum edge_cost p.edges old) (index_sum edge_cost p.edges places)
      (cost_at rows q.a (terminal_of rows q.b))
      (adds.sums edge_cost p.edges (sym sized)) (sym (path_sum p kept edge_cost path.walk places path.along path.there) ∙ path.costs);
  ends = λ v. ends (copies_sum (edge_end_count v) p.edges new) (copies_sum (edge_end_count v) p.edges old)
      (index_sum (edge_end_count v) p.edges places)
      (pass_sum p.lines p.edges (edge_end_count v) path.walk) (one_if (terminal_of rows q.a == v)) (one_if (terminal_of rows q.b == v))
      (adds.sums (edge_end_count v) p.edges (sym sized)) (path_sum p kept (edge_end_count v) path.walk places path.along path.there)
      (walk_ends p.lines p.edges v path.walk (terminal_of rows q.a) (terminal_of rows q.b) path.leads);
}
  where
    costs : (n o s k : ℕ) → n ≡ o + s → s ≡ k → n ≡ o + (k + 0)
    costs n o s k is same = omega arith

    ends : (n o s w i j : ℕ) → n ≡ o + s → w ≡ s → ((w + i) + j) % 2 ≡ 0 → ((n + o) + ((i + j) + 0)) % 2 ≡ 0
    ends n o s w i j is same even = omega arith

-- copies for a pair, and then for further ones
pub adds_more : (p : PieceValue) (rows : RowsValue) (q : Pair) (pairs : List Pair) (old next new : List ℕ)
    → AddsPairs p rows (q ∷ []) old next → AddsPairs p rows pairs next new → AddsPairs p rows (q ∷ pairs) old new
adds_more p rows q pairs old next new one rest = grind (arith, nat_tests)
