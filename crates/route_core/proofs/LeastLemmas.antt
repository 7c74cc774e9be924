-- Least costs are the same both ways, and none is more than those of a way round.
use Rattle.std.proofs.Common.{◌≡◌, ◌≤◌, ◌<◌, ℕ, ◌+◌, Bool, true, false, not, nat_lt, List, [], ◌∷◌, ◌++◌, Option, Some, None, arith, refl, sym, ◌∙◌, ap, subst}
use Rattle.route_core.proofs.Names.{nat_tests, entry, TableValue, Edge, Pass, PieceValue, after_edge, edge_cost, edge_of, edge_value, pass_sum, walk_end_from, RowsValue, cost_at, terminal_of, IsTableOf, lost, HasTriangleInequality, after_pass, IsLeastCost, walk_append}
use Rattle.odd_sets.proofs.CallerLemmas.{entry-comm}

sum_append : (ns : List ℕ) (es : List Edge) (f : Edge → ℕ) (xs ys : List Pass) → pass_sum ns es f (xs ++ ys)
    ≡ pass_sum ns es f xs + pass_sum ns es f ys
sum_append ns es f [] ys = omega arith
sum_append ns es f (x ∷ xs) ys = grind (arith, nat_tests, sum_append ns es f xs ys)

abbrev flipped : Pass → Pass
flipped p = record { line = p.line; back = not p.back }

-- an edge leads back from where it leads to
flip_edge : (found : Option Edge) (back : Bool) (j m : ℕ) → after_edge found back j ≡ Some m → after_edge found (not back) m ≡ Some j
flip_edge None back j m is = absurd (cc)
flip_edge (Some e) back j m is = grind (arith, nat_tests)

-- a walk from one junction to another, and what it costs
record Way (ns : List ℕ) (es : List Edge) (from to cost : ℕ) : Type 0 where
  walk : List Pass
  leads : walk_end_from ns es (Some from) walk ≡ Some to
  costs : pass_sum ns es edge_cost walk ≡ cost

-- a walk leads back for the same cost
way_back : (ns : List ℕ) (es : List Edge) (from to : ℕ) (ps : List Pass) → walk_end_from ns es (Some from) ps ≡ Some to
    → Way ns es to from (pass_sum ns es edge_cost ps)
way_back ns es from to [] is = record { walk = []; leads = sym is; costs = refl }
way_back ns es from to (p ∷ ps) is = by_next (after_pass ns es p (Some from)) refl is (λ m. λ h. way_back ns es m to ps h)
  where
    by_next : (x : Option ℕ) → after_pass ns es p (Some from) ≡ x → walk_end_from ns es x ps ≡ Some to
        → ((m : ℕ) → walk_end_from ns es (Some m) ps ≡ Some to → Way ns es to m (pass_sum ns es edge_cost ps))
        → Way ns es to from (edge_value edge_cost (edge_of ns es p.line) + pass_sum ns es edge_cost ps)
    by_next None next on rest = absurd (lost ns es ps to on)
    by_next (Some m) next on rest =
        let r = rest m on in
        record {
          walk = r.walk ++ flipped p ∷ [];
          leads = walk_append ns es (Some to) r.walk (flipped p ∷ []) ∙ ap (λ (x : Option ℕ). after_pass ns es (flipped p) x) r.leads
              ∙ flip_edge (edge_of ns es p.line) p.back from m next;
          costs = sum_append ns es edge_cost r.walk (flipped p ∷ [])
              ∙ turned (pass_sum ns es edge_cost r.walk) (edge_value edge_cost (edge_of ns es p.line)) _ r.costs;
        }
      where
        turned : (r k u : ℕ) → r ≡ u → r + (k + 0) ≡ k + u
        turned r k u h = omega arith

-- the least cost of the way back
least_back : (p : PieceValue) (i j c : ℕ) → IsLeastCost p i j c → IsLeastCost p j i c
least_back p i j c l =
    let back = way_back p.lines p.edges i j l.walk l.leads in
    record {
      walk = back.walk;
      leads = back.leads;
      costs = back.costs ∙ l.costs;
      least = λ other. λ leads.
          let forth = way_back p.lines p.edges j i other leads in
          subst (λ (k : ℕ). c ≤ k) forth.costs (l.least forth.walk forth.leads);
    }

least_self : (p : PieceValue) (i : ℕ) → IsLeastCost p i i 0
least_self p i = record { walk = []; leads = refl; costs = refl; least = λ other. λ leads. omega arith }

least_round : (p : PieceValue) (i j k c d e : ℕ) → IsLeastCost p i j c → IsLeastCost p j k d → IsLeastCost p i k e → e ≤ c + d
least_round p i j k c d e l m n =
    subst (λ (x : ℕ). e ≤ x) (sum_append p.lines p.edges edge_cost l.walk m.walk ∙ (cc)) (n.least (l.walk ++ m.walk) (walk_append p.lines
    p.edges (Some i) l.walk m.walk ∙ ap (λ (x : Option ℕ). walk_end_from p.lines p.edges x m.walk) l.leads ∙ m.leads))

-- each entry is the least cost between two terminals
pub entry_least : (p : PieceValue) (rows : RowsValue) (t : TableValue) → IsTableOf p rows t → (a b : ℕ) → a < t.places → b < t.places
    → IsLeastCost p (terminal_of rows a) (terminal_of rows b) (entry t a b)
entry_least p rows t j a b a_in b_in = by_test (nat_lt a b) refl (nat_lt b a) refl
  where
    less : (m n : ℕ) → nat_lt m n ≡ true → m < n
    less m n is = grind (arith, nat_tests)

    equal : (m n : ℕ) → nat_lt m n ≡ false → nat_lt n m ≡ false → n ≡ m
    equal m n h g = grind (arith, nat_tests)

    at : (c d : ℕ) → c < d → d < t.places → IsLeastCost p (terminal_of rows c) (terminal_of rows d) (entry t c d)
    at c d cd within =
        subst (IsLeastCost p (terminal_of rows c) (terminal_of rows d)) (sym (j.distances.entries c d cd within))
        (j.rows_are.least c (terminal_of rows d) (omega (arith, j.places, cd, within)) (j.there d (omega (arith, j.places, within))))

    by_test : (s : Bool) → nat_lt a b ≡ s → (u : Bool) → nat_lt b a ≡ u
        → IsLeastCost p (terminal_of rows a) (terminal_of rows b) (entry t a b)
    by_test true is u other = at a b (less a b is) b_in
    by_test false is true other =
        subst (IsLeastCost p (terminal_of rows a) (terminal_of rows b)) (entry-comm t b a)
        (least_back p (terminal_of rows b) (terminal_of rows a) (entry t b a) (at b a (less b a other) a_in))
    by_test false is false other =
        subst (λ (k : ℕ). IsLeastCost p (terminal_of rows a) (terminal_of rows k) (entry t a k)) (sym (equal a b is other))
        (subst (IsLeastCost p (terminal_of rows a) (terminal_of rows a)) (sym (j.distances.none a a_in))
        (least_self p (terminal_of rows a)))

pub triangles : (p : PieceValue) (rows : RowsValue) (t : TableValue) → IsTableOf p rows t → HasTriangleInequality t
triangles p rows t j a b a_in b_in c c_in =
    least_round p (terminal_of rows a) (terminal_of rows b) (terminal_of rows c) (entry t a b) (entry t b c) (entry t a c)
    (entry_least p rows t j a b a_in b_in) (entry_least p rows t j b c b_in c_in) (entry_least p rows t j a c a_in c_in)

-- an entry is the number of the row
pub entry_is : (p : PieceValue) (rows : RowsValue) (t : TableValue) → IsTableOf p rows t → (a b : ℕ) → a < t.places → b < t.places
    → entry t a b ≡ cost_at rows a (terminal_of rows b)
entry_is p rows t j a b a_in b_in = grind (arith, nat_tests, entry_least p rows t j a b a_in b_in)
