-- Walks that use up all of the passes, in a connected piece.
use Rattle.std.proofs.Common.{◌≡◌, ◌≤◌, ◌<◌, ℕ, zero, suc, ◌+◌, ◌%◌, ◌==◌, ◌||◌, ◌&&◌, ◌⊎◌, inl, inr, Bool, true, false, cond, nat_lt, List, [], ◌∷◌, ◌++◌, length, slice_get, Option, Some, None, arith, refl, sym, ◌∙◌, ap, subst}
use Rattle.free_ends.proofs.Names.{nat_tests, and_parts, both_ways, cases_Bool, one_of, or_left, or_parts, or_right, walk_append, Edge, Pass, IsConnectedGraph, IsValidPiece, PieceValue, covers, degree, edge_cost, edge_of, edge_sum, edge_value, ends_below, is_line_passed, one_if, pass_sum, piece_cost, walk_cost, walk_end_from, eq_self, eqb-true, some_same}
use Rattle.free_ends.proofs.PassLemmas.{AreBeside, beside_of, degree_sum, ends_at, passed_append, step_ends, step_leads, sum_append, walk_even}
use Rattle.free_ends.proofs.WalkLemmas.{AreKnown, IsBetween, split, take_at, trail, visits, visits_ends, visits_start}

-- an edge has an end at either of its ends
one_end_a : (e : Edge) → 1 ≤ ends_at e.a e
one_end_a e = omega (arith, ap one_if (eq_self e.a))

one_end_b : (e : Edge) → 1 ≤ ends_at e.b e
one_end_b e = omega (arith, ap one_if (eq_self e.b))

module _ (ns : List ℕ) (es : List Edge) where
  -- the edge of a pass has an end in a set
  abbrev touches_edge : (ℕ → Bool) → Option Edge → Bool
  touches_edge set None = false
  touches_edge set (Some e) = set e.a || set e.b

  -- a pass among these has an end in a set
  abbrev touches : (ℕ → Bool) → List Pass → Bool
  touches set [] = false
  touches set (p ∷ ps) = touches_edge set (edge_of ns es p.line) || touches set ps

  touching_edge : (set : ℕ → Bool) (x : Option Edge) → touches_edge set x ≡ true
      → (v : ℕ) × (set v ≡ true) × (1 ≤ edge_value (ends_at v) x)
  touching_edge set None is = absurd (both_ways false refl is)
  touching_edge set (Some e) is = which (one_of (set e.a) (set e.b) is)
    where
      which : (set e.a ≡ true) ⊎ (set e.b ≡ true) → (v : ℕ) × (set v ≡ true) × (1 ≤ ends_at v e)
      which (inl a) = (e.a, a, one_end_a e)
      which (inr b) = (e.b, b, one_end_b e)

  touching : (set : ℕ → Bool) (left : List Pass) → touches set left ≡ true
      → (v : ℕ) × (set v ≡ true) × (1 ≤ pass_sum ns es (ends_at v) left)
  touching set [] is = absurd (both_ways false refl is)
  touching set (p ∷ ps) is = elim (one_of (touches_edge set (edge_of ns es p.line)) (touches set ps) is) [
    | inl here ↦ let f = touching_edge set (edge_of ns es p.line) here in (f.0, f.1, omega (arith, f.2))
    | inr later ↦ let r = touching set ps later in (r.0, r.1, omega (arith, r.2))
  ]

  untouched : (set : ℕ → Bool) (left : List Pass) (n : ℕ) (e : Edge) → touches set left ≡ false → is_line_passed n left ≡ true
      → edge_of ns es n ≡ Some e → (set e.a ≡ false) × (set e.b ≡ false)
  untouched set [] n e none passed found = absurd (both_ways false refl passed)
  untouched set (p ∷ ps) n e none passed found =
      let parts = or_parts (touches_edge set (edge_of ns es p.line)) (touches set ps) none in
      elim (one_of (p.line == n) (is_line_passed n ps) passed) [
        | inl this ↦
            let same : edge_of ns es p.line ≡ Some e = ap (edge_of ns es) (eqb-true p.line n this) ∙ found in
            or_parts (set e.a) (set e.b) (subst (λ (x : Option Edge). touches_edge set x ≡ false) same parts.0)
        | inr later ↦ untouched set ps n e parts.1 later found
      ]

  -- a walk that uses up all that another and further passes do
  pub record Whole (a b : ℕ) (walk left : List Pass) : Type 0 where
    pub all : List Pass
    pub leads : walk_end_from ns es (Some a) all ≡ Some b
    pub sums : (f : Edge → ℕ) → pass_sum ns es f all ≡ pass_sum ns es f walk + pass_sum ns es f left
    pub lines : (n : ℕ) → (is_line_passed n walk || is_line_passed n left) ≡ true → is_line_passed n all ≡ true

  -- each edge is that of a line which is passed
  abbrev ArePassed : (passed : ℕ → Bool) → Type 0
  ArePassed passed = (i : ℕ) (e : Edge) → slice_get es i ≡ Some e → (n : ℕ) × (edge_of ns es n ≡ Some e) × (passed n ≡ true)

  -- each edge of a line joins junctions below a number
  abbrev AreWithin : ℕ → Type 0
  AreWithin count = (n : ℕ) (e : Edge) → edge_of ns es n ≡ Some e → e.a < count

  -- a closed trail put into a walk at a junction
  record Longer (a b : ℕ) (walk left : List Pass) : Type 0 where
    all : List Pass
    rest : List Pass
    leads : walk_end_from ns es (Some a) all ≡ Some b
    sums : (f : Edge → ℕ) → pass_sum ns es f walk + pass_sum ns es f left ≡ pass_sum ns es f all + pass_sum ns es f rest
    lines : (n : ℕ) → (is_line_passed n walk || is_line_passed n left) ≡ true → (is_line_passed n all || is_line_passed n rest) ≡ true
    known : AreKnown ns es rest
    fewer : length rest < length left
    even : (j : ℕ) → pass_sum ns es (ends_at j) rest % 2 ≡ 0

  closed_rest : (s e r a b : ℕ) → s % 2 ≡ 0 → s ≡ e + r → e ≡ a + b → ((r + b) + a) % 2 ≡ 0
  closed_rest s e r a b even sum ends = omega arith

  all_sum : (w l a q x y c k u r d : ℕ) → w ≡ x + y → l ≡ k + r → r ≡ c + q → a ≡ x + (u + d) → d ≡ c + y → u ≡ k → w + l ≡ a + q
  all_sum w l a q x y c k u r d one two three four five six = omega arith

  even_rest : (l k r c q a b : ℕ) → l % 2 ≡ 0 → l ≡ k + r → k ≡ a + b → r ≡ c + q → ((c + b) + a) % 2 ≡ 0 → q % 2 ≡ 0
  even_rest l k r c q a b even sum ends rest closed = omega arith

  all_lines : (x y p c q w l r : Bool) → w ≡ (x || y) → (l ≡ true → (p || r) ≡ true) → (r ≡ true → (c || q) ≡ true)
      → (w || l) ≡ true → ((x || (p || (c || y))) || q) ≡ true
  all_lines true y p c q w l r one two three is = refl
  all_lines false y true c q w l r one two three is = refl
  all_lines false y false true q w l r one two three is = refl
  all_lines false true false false q w l r one two three is = refl
  all_lines false false false false q w l r one two three is = three (two (subst (λ (k : Bool). (k || l) ≡ true) one is))

  longer : (a b v : ℕ) (walk left : List Pass) → walk_end_from ns es (Some a) walk ≡ Some b → AreKnown ns es left
      → ((j : ℕ) → pass_sum ns es (ends_at j) left % 2 ≡ 0) → visits ns es (Some a) walk v ≡ true
      → 1 ≤ pass_sum ns es (ends_at v) left → Longer a b walk left
  longer a b v walk left leads known even visited some =
      let s = split ns es a b v walk leads visited in
      let t = take_at ns es v left known some in
      let r = trail ns es (length t.rest) t.to v t.rest (omega arith) t.known (λ j. closed_rest _ _ _ _ _ (even j) (t.sums (ends_at j))
      (step_ends ns es t.pass v t.to j t.step)) in
      let on = t.pass ∷ (r.walk ++ s.after) in
      record {
        all = s.before ++ on;
        rest = r.rest;
        leads = walk_append ns es (Some a) s.before on
            ∙ ap (λ (x : Option ℕ). walk_end_from ns es x on) s.to
            ∙ ap (λ (x : Option ℕ). walk_end_from ns es x (r.walk ++ s.after)) (step_leads ns es t.pass v t.to t.step)
            ∙ walk_append ns es (Some t.to) r.walk s.after
            ∙ ap (λ (x : Option ℕ). walk_end_from ns es x s.after) r.leads ∙ s.from;
        sums = λ f. all_sum (pass_sum ns es f walk) (pass_sum ns es f left) (pass_sum ns es f (s.before ++ on)) (pass_sum ns es f r.rest)
            (pass_sum ns es f s.before) (pass_sum ns es f s.after) (pass_sum ns es f r.walk) (f t.step.edge)
            (edge_value f (edge_of ns es t.pass.line)) (pass_sum ns es f t.rest) (pass_sum ns es f (r.walk ++ s.after))
            (ap (pass_sum ns es f) s.is ∙ sum_append ns es f s.before s.after) (t.sums f) (r.sums f)
            (sum_append ns es f s.before on) (sum_append ns es f r.walk s.after) (ap (edge_value f) t.step.found);
        lines = λ n is. rw (passed_append n s.before on, passed_append n r.walk s.after)
            (all_lines (is_line_passed n s.before) (is_line_passed n s.after) (t.pass.line == n) (is_line_passed n r.walk)
            (is_line_passed n r.rest) (is_line_passed n walk) (is_line_passed n left) (is_line_passed n t.rest)
            (ap (is_line_passed n) s.is ∙ passed_append n s.before s.after) (t.lines n) (r.lines n) is);
        known = r.known;
        fewer = omega (arith, t.fewer, r.fewer);
        even = λ j. even_rest _ _ _ _ _ _ _ (even j) (t.sums (ends_at j)) (step_ends ns es t.pass v t.to j t.step) (r.sums (ends_at j))
            (walk_even ns es j r.walk t.to v r.leads);
      }

  -- in a connected piece a pass that is left has an end where the walk goes
  apart : (count : ℕ) → IsConnectedGraph es count → AreWithin count → (a b : ℕ) (walk : List Pass) (q : Pass) (qs : List Pass)
      → a < count → walk_end_from ns es (Some a) walk ≡ Some b → AreKnown ns es (q ∷ qs)
      → ArePassed (λ n. is_line_passed n walk || is_line_passed n (q ∷ qs)) → touches (visits ns es (Some a) walk) (q ∷ qs) ≡ false → ⊥
  apart count joined within a b walk q qs at leads known passed none =
      both_ways (visits ns es (Some a) walk known.0.0.a)
      (untouched (visits ns es (Some a) walk) (q ∷ qs) q.line known.0.0 none (or_left (q.line == q.line) _ (eq_self q.line)) known.0.1).0
      (sym (joined (visits ns es (Some a) walk) leaves a known.0.0.a at (within q.line known.0.0 known.0.1)) ∙ visits_start ns es a walk)
    where
      which : (n : ℕ) (e : Edge) → edge_of ns es n ≡ Some e → (is_line_passed n walk ≡ true) ⊎ (is_line_passed n (q ∷ qs) ≡ true)
          → visits ns es (Some a) walk e.a ≡ visits ns es (Some a) walk e.b
      which n e found (inl in_walk) = let v = visits_ends ns es a b n e walk leads in_walk found in v.0 ∙ sym v.1
      which n e found (inr is_left) = let u = untouched (visits ns es (Some a) walk) (q ∷ qs) n e none is_left found in u.0 ∙ sym u.1

      leaves : (i : ℕ) (e : Edge) → slice_get es i ≡ Some e → visits ns es (Some a) walk e.a ≡ visits ns es (Some a) walk e.b
      leaves i e is =
          let p = passed i e is in
          which p.0 e p.1 (one_of (is_line_passed p.0 walk) (is_line_passed p.0 (q ∷ qs)) p.2)

  -- where all the passes that are left have an even number of ends everywhere, they all can be put into the walk
  pub complete : (count : ℕ) → IsConnectedGraph es count → AreWithin count → (fuel a b : ℕ) (walk left : List Pass) → length left ≤ fuel
      → a < count → walk_end_from ns es (Some a) walk ≡ Some b → AreKnown ns es left
      → ((j : ℕ) → pass_sum ns es (ends_at j) left % 2 ≡ 0) → ArePassed (λ n. is_line_passed n walk || is_line_passed n left)
      → Whole a b walk left
  complete count joined within fuel a b walk [] few at leads known even passed = record {
    all = walk;
    leads = leads;
    sums = λ f. omega arith;
    lines = λ n is. bare (is_line_passed n walk) is;
  }
    where
      bare : (t : Bool) → (t || false) ≡ true → t ≡ true
      bare true is = refl
      bare false is = is
  complete count joined within zero a b walk (q ∷ qs) few at leads known even passed = absurd (omega (arith, few))
  complete count joined within (suc fuel) a b walk (q ∷ qs) few at leads known even passed =
      elim (cases_Bool (touches (visits ns es (Some a) walk) (q ∷ qs))) [
        | inl some ↦
            let v = touching (visits ns es (Some a) walk) (q ∷ qs) some in
            let l = longer a b v.0 walk (q ∷ qs) leads known even v.1 v.2 in
            let w = complete count joined within fuel a b l.all l.rest (omega (arith, l.fewer, few)) at l.leads l.known l.even (λ i e is.
            let p = passed i e is in (p.0, p.1, l.lines p.0 p.2)) in
            record {
              all = w.all;
              leads = w.leads;
              sums = λ f. w.sums f ∙ sym (l.sums f);
              lines = λ n is. w.lines n (l.lines n is);
            }
        | inr none ↦ absurd (apart count joined within a b walk q qs at leads known passed none)
      ]

-- each line of a piece once, forwards
abbrev pub forwards : List ℕ → List Pass
forwards [] = []
forwards (n ∷ ns) = record { line = n; back = false } ∷ forwards ns

pub forwards_known : (all : List ℕ) (edges : List Edge) (ns : List ℕ) (es : List Edge) → AreBeside all edges ns es
    → AreKnown all edges (forwards ns)
forwards_known all edges [] es are = tt
forwards_known all edges (n ∷ ns) [] are = absurd are
forwards_known all edges (n ∷ ns) (e ∷ es) are = ((e, are.0), forwards_known all edges ns es are.1)

pub forwards_sum : (all : List ℕ) (edges : List Edge) (f : Edge → ℕ) (ns : List ℕ) (es : List Edge) → length ns ≡ length es
    → AreBeside all edges ns es → pass_sum all edges f (forwards ns) ≡ edge_sum f es
forwards_sum all edges f [] [] same are = refl
forwards_sum all edges f [] (e ∷ es) same are = absurd (omega (arith, same))
forwards_sum all edges f (n ∷ ns) [] same are = absurd are
forwards_sum all edges f (n ∷ ns) (e ∷ es) same are =
    rw (forwards_sum all edges f ns es (omega (arith, same)) are.1, are.0) refl

-- the line beside an edge has it, and is passed
forwards_passed : (all : List ℕ) (edges : List Edge) (ns : List ℕ) (es : List Edge) → AreBeside all edges ns es → length ns ≡ length es
    → (i : ℕ) (e : Edge) → slice_get es i ≡ Some e → (n : ℕ) × (edge_of all edges n ≡ Some e) × (is_line_passed n (forwards ns) ≡ true)
forwards_passed all edges [] [] are same i e is = absurd (cc)
forwards_passed all edges [] (x ∷ es) are same i e is = absurd (omega (arith, same))
forwards_passed all edges (n ∷ ns) [] are same i e is = absurd are
forwards_passed all edges (n ∷ ns) (x ∷ es) are same zero e is = (n, are.0 ∙ is, or_left (n == n) _ (eq_self n))
forwards_passed all edges (n ∷ ns) (x ∷ es) are same (suc i) e is =
    let r = forwards_passed all edges ns es are.1 (omega (arith, same)) i e is in
    (r.0, r.1, or_right (n == r.0) _ r.2)

-- a walk that passes all of these covers their lines
all_covered : (ns : List ℕ) (walk : List Pass) → ((n : ℕ) → is_line_passed n (forwards ns) ≡ true → is_line_passed n walk ≡ true)
    → covers ns walk ≡ true
all_covered [] walk all = refl
all_covered (n ∷ ns) walk all =
    rw (all n (or_left (n == n) _ (eq_self n))) (all_covered ns walk (λ m is. all m (or_right (n == m) _ is)))

pub known_append : (ns : List ℕ) (es : List Edge) (xs ys : List Pass) → AreKnown ns es xs → AreKnown ns es ys → AreKnown ns es (xs ++ ys)
known_append ns es [] ys left right = right
known_append ns es (x ∷ xs) ys left right = (left.0, known_append ns es xs ys left.1 right)

-- the ends of each edge are junctions
edge_within : (count : ℕ) (ns : List ℕ) (es : List Edge) → ends_below count es ≡ true → (n : ℕ) (e : Edge) → edge_of ns es n ≡ Some e
    → e.a < count
edge_within count [] es below n e is = absurd (cc)
edge_within count (m ∷ ns) [] below n e is = absurd (cc)
edge_within count (m ∷ ns) (x ∷ es) below n e is =
    let parts = and_parts (nat_lt x.a count && nat_lt x.b count) (ends_below count es) below in
    elim (cases_Bool (n == m)) [
      | inl same ↦ here parts.0 (subst (λ (t : Bool). cond t (Some x) (edge_of ns es n) ≡ Some e) same is)
      | inr other ↦ edge_within count ns es parts.1 n e (subst (λ (t : Bool). cond t (Some x) (edge_of ns es n) ≡ Some e) other is)
    ]
  where
    less : (i k : ℕ) → nat_lt i k ≡ true → i < k
    less i k is = grind (arith, nat_tests)

    here : (nat_lt x.a count && nat_lt x.b count) ≡ true → Some x ≡ Some e → e.a < count
    here ends is = subst (λ (y : Edge). y.a < count) (some_same x e is)
        (less x.a count (and_parts (nat_lt x.a count) (nat_lt x.b count) ends).0)

-- a walk over all lines and further passes, from one junction to another
pub record CoversWith (p : PieceValue) (a b : ℕ) (extra : List Pass) : Type 0 where
  pub walk : List Pass
  pub leads : walk_end_from p.lines p.edges (Some a) walk ≡ Some b
  pub covered : covers p.lines walk ≡ true
  pub costs : walk_cost p walk ≡ piece_cost p + pass_sum p.lines p.edges edge_cost extra

-- what the lines, each once, and further passes add up to
lines_and_more : (p : PieceValue) (extra : List Pass) → IsValidPiece p → (f : Edge → ℕ)
    → pass_sum p.lines p.edges f (forwards p.lines ++ extra) ≡ edge_sum f p.edges + pass_sum p.lines p.edges f extra
lines_and_more p extra kept f =
    sum_append p.lines p.edges f (forwards p.lines) extra
    ∙ ap (λ (k : ℕ). k + pass_sum p.lines p.edges f extra)
    (forwards_sum p.lines p.edges f p.lines p.edges kept.beside (beside_of p.lines p.edges kept.beside kept.rising))

between : (p : PieceValue) (a b : ℕ) (extra : List Pass) → IsValidPiece p
    → ((j : ℕ) → (((degree p.edges j + pass_sum p.lines p.edges (ends_at j) extra) + one_if (a == j)) + one_if (b == j)) % 2 ≡ 0)
    → IsBetween p.lines p.edges a b (forwards p.lines ++ extra)
between p a b extra kept odd j = subst (λ (k : ℕ). ((k + one_if (a == j)) + one_if (b == j)) % 2 ≡ 0)
    (ap (λ (k : ℕ). k + pass_sum p.lines p.edges (ends_at j) extra) (degree_sum p.edges j)
    ∙ sym (lines_and_more p extra kept (ends_at j)))
    (odd j)

in_all : (n : ℕ) (extra : List Pass) (ns : List ℕ) → is_line_passed n (forwards ns) ≡ true
    → is_line_passed n (forwards ns ++ extra) ≡ true
in_all n extra ns is = subst (λ (k : Bool). k ≡ true) (sym (passed_append n (forwards ns) extra)) (or_left _ _ is)

trail_even : (l c q x y : ℕ) → ((l + x) + y) % 2 ≡ 0 → l ≡ c + q → ((c + x) + y) % 2 ≡ 0 → q % 2 ≡ 0
trail_even l c q x y whole sum part = omega arith

-- where the lines and these passes have an odd number of ends at the two junctions alone, there is such a walk
pub covers_with : (p : PieceValue) (a b : ℕ) (extra : List Pass) → IsValidPiece p → a < length p.junctions
    → AreKnown p.lines p.edges extra
    → ((j : ℕ) → (((degree p.edges j + pass_sum p.lines p.edges (ends_at j) extra) + one_if (a == j)) + one_if (b == j)) % 2 ≡ 0)
    → CoversWith p a b extra
covers_with p a b extra kept at known odd =
    let ns = p.lines in
    let es = p.edges in
    let beside = beside_of ns es kept.beside kept.rising in
    let left = forwards ns ++ extra in
    let t = trail ns es (length left) a b left (omega arith)
    (known_append ns es (forwards ns) extra (forwards_known ns es ns es beside) known) (between p a b extra kept odd) in
    let w = complete ns es (length p.junctions) kept.joined (edge_within (length p.junctions) ns es kept.ends)
    (length t.rest) a b t.walk t.rest
    (omega arith) at t.leads t.known
    (λ j. trail_even _ _ _ _ _ (between p a b extra kept odd j) (t.sums (ends_at j)) (walk_even ns es j t.walk a b t.leads)) (λ i e is.
    let f = forwards_passed ns es ns es beside kept.beside i e is in
    (f.0, f.1, t.lines f.0 (in_all f.0 extra ns f.2))) in
    record {
      walk = w.all;
      leads = w.leads;
      covered = all_covered ns w.all (λ n is. w.lines n (t.lines n (in_all n extra ns is)));
      costs = w.sums edge_cost ∙ sym (t.sums edge_cost) ∙ lines_and_more p extra kept edge_cost;
    }
