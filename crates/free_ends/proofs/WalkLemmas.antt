-- A walk that uses up passes: where they have an odd number of ends at the two ends of the walk alone, they can be put in an
-- order in which they lead from one to the other, in a piece that is connected.
use Rattle.std.proofs.Common.{◌≡◌, ◌≤◌, ℕ, zero, suc, ◌+◌, ◌%◌, ◌==◌, ◌||◌, inl, inr, Bool, true, false, List, [], ◌∷◌, ◌++◌, length, Option, Some, None, arith, refl, sym, ◌∙◌, ap, subst}
use Rattle.free_ends.proofs.Names.{both_ways, cases_eq, eq-eqb, eq_self, eqb-true, one_of, some_same, unequal, Edge, Pass, after_pass, edge_of, edge_value, is_line_passed, one_if, or_left, or_right, pass_end, pass_start, pass_sum, walk_end_from}
use Rattle.free_ends.proofs.PassLemmas.{Step, ends_at, first_step, step_ends, step_leads}

-- each pass has an edge of the piece
abbrev pub AreKnown : List ℕ → List Edge → List Pass → Type 0
AreKnown ns es [] = Unit {0}
AreKnown ns es (p ∷ ps) = ((e : Edge) × (edge_of ns es p.line ≡ Some e)) × AreKnown ns es ps

module _ (ns : List ℕ) (es : List Edge) where
  -- a pass from a junction, taken out of others, in the direction in which it starts there
  pub record Taken (v : ℕ) (left : List Pass) : Type 0 where
    pub pass : Pass
    pub to : ℕ
    pub step : Step ns es pass v to
    pub rest : List Pass
    pub sums : (f : Edge → ℕ) → pass_sum ns es f left ≡ f step.edge + pass_sum ns es f rest
    pub lines : (n : ℕ) → is_line_passed n left ≡ true → (pass.line == n || is_line_passed n rest) ≡ true
    pub known : AreKnown ns es rest
    pub fewer : length left ≡ suc (length rest)

  -- an edge with an end at a junction gives a pass from there
  pass_from : (q : Pass) (e : Edge) (v : ℕ) → edge_of ns es q.line ≡ Some e → 1 ≤ ends_at v e
      → (back : Bool) × (to : ℕ) × Step ns es (record { line = q.line; back = back }) v to
  pass_from q e v found some = go (e.a == v) refl (e.b == v) refl some
    where
      go : (s : Bool) → (e.a == v) ≡ s → (t : Bool) → (e.b == v) ≡ t → 1 ≤ one_if (e.a == v) + one_if (e.b == v)
          → (back : Bool) × (to : ℕ) × Step ns es (record { line = q.line; back = back }) v to
      go true is t other some = (false, e.b, record { edge = e; found = found; from = eqb-true e.a v is; to = refl })
      go false is true other some = (true, e.a, record { edge = e; found = found; from = eqb-true e.b v other; to = refl })
      go false is false other some = absurd (omega (arith, rw (is, other) at some))

  swapped : (a b c d : ℕ) → b ≡ c + d → a + b ≡ c + (a + d)
  swapped a b c d h = omega arith

  moved : (a b c d : Bool) → (d ≡ true → (b || c) ≡ true) → (a || d) ≡ true → (b || (a || c)) ≡ true
  moved true true c d f is = refl
  moved true false c d f is = refl
  moved false b c d f is = f is

  pub take_at : (v : ℕ) (left : List Pass) → AreKnown ns es left → 1 ≤ pass_sum ns es (ends_at v) left → Taken v left
  take_at v [] known some = absurd (omega (arith, some))
  take_at v (q ∷ qs) known some =
      let e = known.0.0 in
      let found = known.0.1 in
      elim (cases_eq (ends_at v e) 0) [
        | inr met ↦
            let p = pass_from q e v found (omega (arith, met)) in
            record {
              pass = record { line = q.line; back = p.0 };
              to = p.1;
              step = p.2;
              rest = qs;
              sums = λ f. ap (λ (x : Option Edge). edge_value f x + pass_sum ns es f qs) p.2.found;
              lines = λ n is. is;
              known = known.1;
              fewer = refl;
            }
        | inl none ↦
            let value : edge_value (ends_at v) (edge_of ns es q.line) ≡ 0 = ap (edge_value (ends_at v)) found ∙ none in
            let r = take_at v qs known.1 (omega (arith, some, value)) in
            record {
              pass = r.pass;
              to = r.to;
              step = r.step;
              rest = q ∷ r.rest;
              sums = λ f. swapped _ _ _ _ (r.sums f);
              lines = λ n is. moved (q.line == n) (r.pass.line == n) (is_line_passed n r.rest) (is_line_passed n qs) (r.lines n) is;
              known = (known.0, r.known);
              fewer = ap (λ (k : ℕ). suc k) r.fewer;
            }
      ]

  -- a walk that uses up some of the passes, and those that are left
  pub record Trail (v x : ℕ) (left : List Pass) : Type 0 where
    pub walk : List Pass
    pub rest : List Pass
    pub leads : walk_end_from ns es (Some v) walk ≡ Some x
    pub sums : (f : Edge → ℕ) → pass_sum ns es f left ≡ pass_sum ns es f walk + pass_sum ns es f rest
    pub lines : (n : ℕ) → is_line_passed n left ≡ true → (is_line_passed n walk || is_line_passed n rest) ≡ true
    pub known : AreKnown ns es rest
    pub fewer : length rest ≤ length left

  -- the passes have an odd number of ends at one of two junctions alone, or at none where they are one
  abbrev pub IsBetween : ℕ → ℕ → List Pass → Type 0
  IsBetween v x left = (j : ℕ) → ((pass_sum ns es (ends_at j) left + one_if (v == j)) + one_if (x == j)) % 2 ≡ 0

  least_ends : (s a b : ℕ) → ((s + a) + b) % 2 ≡ 0 → a ≡ 1 → b ≡ 0 → 1 ≤ s
  least_ends s a b even one none = omega arith

  -- at the first of two different junctions there is an end
  some_end : (v x : ℕ) (left : List Pass) → IsBetween v x left → (v ≡ x → ⊥) → 1 ≤ pass_sum ns es (ends_at v) left
  some_end v x left odd apart =
      least_ends _ _ _ (odd v) (ap one_if (eq_self v)) (ap one_if (unequal x v (λ is. apart (sym is))))

  odd_rest : (s e r a b c : ℕ) → ((s + a) + c) % 2 ≡ 0 → s ≡ e + r → e ≡ a + b → ((r + b) + c) % 2 ≡ 0
  odd_rest s e r a b c even sum ends = omega arith

  longer_sum : (s e u r w q : ℕ) → s ≡ e + r → u ≡ e → r ≡ w + q → s ≡ (u + w) + q
  longer_sum s e u r w q sum value rest = omega arith

  longer_lines : (a b c d : Bool) → (a || b) ≡ true → (b ≡ true → (c || d) ≡ true) → ((a || c) || d) ≡ true
  longer_lines true b c d is f = refl
  longer_lines false b c d is f = f is

  -- such passes have a walk from one to the other
  pub trail : (fuel : ℕ) (v x : ℕ) (left : List Pass) → length left ≤ fuel → AreKnown ns es left → IsBetween v x left → Trail v x left
  trail zero v x left few known odd = elim (cases_eq v x) [
    | inl is ↦ record {
      walk = [];
      rest = left;
      leads = ap (λ (k : ℕ). Some k) is;
      sums = λ f. omega arith;
      lines = λ n is. is;
      known = known;
      fewer = omega arith;
    }
    | inr apart ↦
        let t = take_at v left known (some_end v x left odd apart) in
        absurd (omega (arith, t.fewer, few))
  ]
  trail (suc fuel) v x left few known odd = elim (cases_eq v x) [
    | inl is ↦ record {
      walk = [];
      rest = left;
      leads = ap (λ (k : ℕ). Some k) is;
      sums = λ f. omega arith;
      lines = λ n is. is;
      known = known;
      fewer = omega arith;
    }
    | inr apart ↦
        let t = take_at v left known (some_end v x left odd apart) in
        let r = trail fuel t.to x t.rest (omega (arith, t.fewer, few)) t.known (λ j.
        odd_rest _ _ _ _ _ _ (odd j) (t.sums (ends_at j)) (step_ends ns es t.pass v t.to j t.step)) in
        record {
          walk = t.pass ∷ r.walk;
          rest = r.rest;
          leads = ap (λ (k : Option ℕ). walk_end_from ns es k r.walk) (step_leads ns es t.pass v t.to t.step) ∙ r.leads;
          sums = λ f. longer_sum _ _ _ _ _ _ (t.sums f) (ap (edge_value f) t.step.found) (r.sums f);
          lines = λ n is. longer_lines (t.pass.line == n) (is_line_passed n t.rest) (is_line_passed n r.walk) (is_line_passed n r.rest)
              (t.lines n is) (r.lines n);
          known = r.known;
          fewer = omega (arith, t.fewer, r.fewer);
        }
  ]

  -- a walk visits a junction
  abbrev pub visits : Option ℕ → List Pass → ℕ → Bool
  visits None walk j = false
  visits (Some at) [] j = at == j
  visits (Some at) (p ∷ walk) j = at == j || visits (after_pass ns es p (Some at)) walk j

  -- a walk in two at a junction
  pub record Split (a b v : ℕ) (walk : List Pass) : Type 0 where
    pub before : List Pass
    pub after : List Pass
    pub to : walk_end_from ns es (Some a) before ≡ Some v
    pub from : walk_end_from ns es (Some v) after ≡ Some b
    pub is : walk ≡ before ++ after

  -- a walk is split at a junction that it visits
  pub split : (a b v : ℕ) (walk : List Pass) → walk_end_from ns es (Some a) walk ≡ Some b → visits (Some a) walk v ≡ true
      → Split a b v walk
  split a b v [] leads visited =
      let same = eqb-true a v visited in
      record { before = []; after = []; to = ap (λ (k : ℕ). Some k) same; from = ap (λ (k : ℕ). Some k) (sym same) ∙ leads; is = refl }
  split a b v (p ∷ walk) leads visited =
      let n = first_step ns es p walk a b leads in
      let next = step_leads ns es p a n.0 n.1 in
      elim (one_of (a == v) (visits (after_pass ns es p (Some a)) walk v) visited) [
        | inl here ↦
            let same = eqb-true a v here in
            record {
              before = [];
              after = p ∷ walk;
              to = ap (λ (k : ℕ). Some k) same;
              from = subst (λ (k : ℕ). walk_end_from ns es (Some k) (p ∷ walk) ≡ Some b) same leads;
              is = refl;
            }
        | inr later ↦
            let r = split n.0 b v walk n.2 (subst (λ (x : Option ℕ). visits x walk v ≡ true) next later) in
            record {
              before = p ∷ r.before;
              after = r.after;
              to = ap (λ (x : Option ℕ). walk_end_from ns es x r.before) next ∙ r.to;
              from = r.from;
              is = ap (λ (w : List Pass). p ∷ w) r.is;
            }
      ]

  -- a walk visits where it starts
  pub visits_start : (a : ℕ) (walk : List Pass) → visits (Some a) walk a ≡ true
  visits_start a [] = eq_self a
  visits_start a (p ∷ walk) = or_left (a == a) _ (eq_self a)

  visits_later : (p : Pass) (walk : List Pass) (a m j : ℕ) → after_pass ns es p (Some a) ≡ Some m → visits (Some m) walk j ≡ true
      → visits (after_pass ns es p (Some a)) walk j ≡ true
  visits_later p walk a m j next is = subst (λ (x : Option ℕ). visits x walk j ≡ true) (sym next) is

  -- the two ends of its first line
  first_ends : (p : Pass) (walk : List Pass) (a m n : ℕ) (e : Edge) → (s : Step ns es p a m) → s.edge ≡ e
      → (visits (Some a) (p ∷ walk) e.a ≡ true) × (visits (Some a) (p ∷ walk) e.b ≡ true)
  first_ends p walk a m n e s same = ends p.back refl
    where
      here : (j : ℕ) → a ≡ j → visits (Some a) (p ∷ walk) j ≡ true
      here j is = or_left (a == j) _ (eq-eqb a j is)

      there : (j : ℕ) → m ≡ j → visits (Some a) (p ∷ walk) j ≡ true
      there j is = or_right (a == j) _ (visits_later p walk a m j (step_leads ns es p a m s)
          (subst (λ (k : ℕ). visits (Some m) walk k ≡ true) is (visits_start m walk)))

      starts : (back : Bool) → p.back ≡ back → a ≡ pass_start e back
      starts back is = sym s.from ∙ rw (is, same) refl

      leads_to : (back : Bool) → p.back ≡ back → m ≡ pass_end e back
      leads_to back is = sym s.to ∙ rw (is, same) refl

      ends : (back : Bool) → p.back ≡ back → (visits (Some a) (p ∷ walk) e.a ≡ true) × (visits (Some a) (p ∷ walk) e.b ≡ true)
      ends true is = (there e.a (leads_to true is), here e.b (starts true is))
      ends false is = (here e.a (starts false is), there e.b (leads_to false is))

  -- and both ends of each line that it passes
  pub visits_ends : (a b n : ℕ) (e : Edge) (walk : List Pass) → walk_end_from ns es (Some a) walk ≡ Some b → is_line_passed n walk ≡ true
      → edge_of ns es n ≡ Some e → (visits (Some a) walk e.a ≡ true) × (visits (Some a) walk e.b ≡ true)
  visits_ends a b n e [] leads passed found = absurd (both_ways false refl passed)
  visits_ends a b n e (p ∷ walk) leads passed found =
      let m = first_step ns es p walk a b leads in
      let next = step_leads ns es p a m.0 m.1 in
      elim (one_of (p.line == n) (is_line_passed n walk) passed) [
        | inl this ↦ first_ends p walk a m.0 n e m.1
            (some_same m.1.edge e (sym m.1.found ∙ ap (edge_of ns es) (eqb-true p.line n this) ∙ found))
        | inr later ↦
            let r = visits_ends m.0 b n e walk m.2 later found in (
              or_right (a == e.a) _ (visits_later p walk a m.0 e.a next r.0),
              or_right (a == e.b) _ (visits_later p walk a m.0 e.b next r.1),
            )
      ]
