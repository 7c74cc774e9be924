-- Passes of a walk, one by one: the edges that they follow, and the ends that they have at a junction.
use Rattle.std.proofs.Common.{◌≡◌, ℕ, ◌+◌, ◌%◌, ◌==◌, ◌||◌, Bool, true, false, cond, nat_lt, List, [], ◌∷◌, ◌++◌, length, Option, Some, None, arith, refl, ◌∙◌, ap, subst}
use Rattle.free_ends.proofs.Names.{nat_tests, and_parts, eq-eqb, eqb-true, some_same, lost, Edge, Pass, one_if, degree, after_edge, after_pass, all_greater, edge_of, edge_sum, edge_value, is_line_passed, is_strictly_increasing, pass_end, pass_start, pass_sum, walk_end_from}

-- the number of ends of an edge at a junction
abbrev pub ends_at : ℕ → Edge → ℕ
ends_at v e = one_if (e.a == v) + one_if (e.b == v)

-- a degree is a sum over the edges
pub degree_sum : (es : List Edge) (v : ℕ) → degree es v ≡ edge_sum (ends_at v) es
degree_sum [] v = refl
degree_sum (e ∷ es) v = ap (λ (k : ℕ). ends_at v e + k) (degree_sum es v)

-- a pass from a junction to the next one
pub record Step (ns : List ℕ) (es : List Edge) (p : Pass) (at next : ℕ) : Type 0 where
  pub edge : Edge
  pub found : edge_of ns es p.line ≡ Some edge
  pub from : pass_start edge p.back ≡ at
  pub to : pass_end edge p.back ≡ next

-- a pass that leads on is such a step
pub step_of : (ns : List ℕ) (es : List Edge) (p : Pass) (at next : ℕ) → after_pass ns es p (Some at) ≡ Some next → Step ns es p at next
step_of ns es p at next is = go (edge_of ns es p.line) refl is
  where
    by_test : (e : Edge) → edge_of ns es p.line ≡ Some e → (t : Bool) → (pass_start e p.back == at) ≡ t
        → cond t (Some (pass_end e p.back)) None ≡ Some next → Step ns es p at next
    by_test e found true test is = record {
      edge = e;
      found = found;
      from = eqb-true (pass_start e p.back) at test;
      to = some_same (pass_end e p.back) next is;
    }
    by_test e found false test is = absurd (cc)

    go : (found : Option Edge) → edge_of ns es p.line ≡ found → after_edge found p.back at ≡ Some next → Step ns es p at next
    go None found is = absurd (cc)
    go (Some e) found is = by_test e found (pass_start e p.back == at) refl is

-- and such a step leads on
pub step_leads : (ns : List ℕ) (es : List Edge) (p : Pass) (at next : ℕ) → Step ns es p at next → after_pass ns es p (Some at) ≡ Some next
step_leads ns es p at next s =
    rw (s.found, eq-eqb (pass_start s.edge p.back) at s.from) (ap (λ (k : ℕ). Some k) s.to)

-- the first pass of a walk that leads somewhere, and where it leads on
pub first_step : (ns : List ℕ) (es : List Edge) (p : Pass) (ps : List Pass) (at to : ℕ) → walk_end_from ns es (Some at) (p ∷ ps) ≡ Some to
    → (k : ℕ) × Step ns es p at k × (walk_end_from ns es (Some k) ps ≡ Some to)
first_step ns es p ps at to is = go (after_pass ns es p (Some at)) refl is
  where
    go : (x : Option ℕ) → after_pass ns es p (Some at) ≡ x → walk_end_from ns es x ps ≡ Some to
        → (k : ℕ) × Step ns es p at k × (walk_end_from ns es (Some k) ps ≡ Some to)
    go None next on = absurd (lost ns es ps to on)
    go (Some k) next on = (k, step_of ns es p at k next, on)

-- the ends of the edge of a step are where it starts and where it leads
pub step_ends : (ns : List ℕ) (es : List Edge) (p : Pass) (at next v : ℕ) → (s : Step ns es p at next)
    → ends_at v s.edge ≡ one_if (at == v) + one_if (next == v)
step_ends ns es p at next v s = rw (← s.from, ← s.to) (turned p.back s.edge)
  where
    turned : (back : Bool) (e : Edge) → ends_at v e ≡ one_if (pass_start e back == v) + one_if (pass_end e back == v)
    turned true e = omega arith
    turned false e = refl

-- a walk has an odd number of ends at a junction exactly where it is one of its two ends
pub walk_even : (ns : List ℕ) (es : List Edge) (v : ℕ) (ps : List Pass) (at to : ℕ) → walk_end_from ns es (Some at) ps ≡ Some to
    → ((pass_sum ns es (ends_at v) ps + one_if (at == v)) + one_if (to == v)) % 2 ≡ 0
walk_even ns es v [] at to is = subst (λ (k : ℕ). ((0 + one_if (at == v)) + one_if (k == v)) % 2 ≡ 0) (some_same at to is)
    (twice (one_if (at == v)))
  where
    twice : (k : ℕ) → ((0 + k) + k) % 2 ≡ 0
    twice k = omega arith
walk_even ns es v (p ∷ ps) at to is =
    let n = first_step ns es p ps at to is in
    let value : edge_value (ends_at v) (edge_of ns es p.line) ≡ one_if (at == v) + one_if (n.0 == v) =
    ap (edge_value (ends_at v)) n.1.found ∙ step_ends ns es p at n.0 v n.1 in
    joined _ _ _ _ _ value (walk_even ns es v ps n.0 to n.2)
  where
    joined : (c s i j t : ℕ) → c ≡ i + j → ((s + j) + t) % 2 ≡ 0 → (((c + s) + i) + t) % 2 ≡ 0
    joined c s i j t first rest = omega arith

-- sums and lines of two lists of passes
pub sum_append : (ns : List ℕ) (es : List Edge) (f : Edge → ℕ) (xs ys : List Pass)
    → pass_sum ns es f (xs ++ ys) ≡ pass_sum ns es f xs + pass_sum ns es f ys
sum_append ns es f [] ys = omega arith
sum_append ns es f (x ∷ xs) ys = omega (arith, sum_append ns es f xs ys)

pub passed_append : (n : ℕ) (xs ys : List Pass) → is_line_passed n (xs ++ ys) ≡ (is_line_passed n xs || is_line_passed n ys)
passed_append n [] ys = refl
passed_append n (x ∷ xs) ys = rw (passed_append n xs ys) (either (x.line == n) (is_line_passed n xs) (is_line_passed n ys))
  where
    either : (a b c : Bool) → (a || (b || c)) ≡ ((a || b) || c)
    either true b c = refl
    either false b c = refl

-- edges beside their lines are those that the lines have among all
abbrev pub AreBeside : List ℕ → List Edge → List ℕ → List Edge → Type 0
AreBeside ns es [] rest = Unit {0}
AreBeside ns es (m ∷ ms) [] = ⊥
AreBeside ns es (m ∷ ms) (e ∷ rest) = (edge_of ns es m ≡ Some e) × AreBeside ns es ms rest

-- a number that is less than all lines is none of them, so more lines in front change nothing
beside_more : (n : ℕ) (e : Edge) (ns : List ℕ) (es : List Edge) (ms : List ℕ) (rest : List Edge) → all_greater n ms ≡ true
    → AreBeside ns es ms rest → AreBeside (n ∷ ns) (e ∷ es) ms rest
beside_more n e ns es [] rest up are = tt
beside_more n e ns es (m ∷ ms) [] up are = absurd are
beside_more n e ns es (m ∷ ms) (x ∷ rest) up are =
    (other, beside_more n e ns es ms rest (and_parts (nat_lt n m) (all_greater n ms) up).1 are.1)
  where
    apart : (m == n) ≡ false
    apart = grind (arith, nat_tests, (and_parts (nat_lt n m) (all_greater n ms) up).0)

    other : edge_of (n ∷ ns) (e ∷ es) m ≡ Some x
    other = rw apart are.0

pub beside_of : (ns : List ℕ) (es : List Edge) → length ns ≡ length es → is_strictly_increasing ns ≡ true → AreBeside ns es ns es
beside_of [] es same up = tt
beside_of (n ∷ ns) [] same up = absurd (omega arith)
beside_of (n ∷ ns) (e ∷ es) same up =
    let parts = and_parts (all_greater n ns) (is_strictly_increasing ns) up in
    (here, beside_more n e ns es ns es parts.0 (beside_of ns es (omega (arith, same)) parts.1))
  where
    here : edge_of (n ∷ ns) (e ∷ es) n ≡ Some e
    here = rw (eq-eqb n n refl) refl
