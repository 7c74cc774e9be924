-- The passes of a walk beyond one of each line, and the links that their edges make.
use Rattle.std.proofs.Common.{◌≡◌, ℕ, ◌+◌, ◌==◌, ◌||◌, inl, inr, Bool, true, false, nat_lt, List, [], ◌∷◌, length, Option, Some, None, arith, refl, sym, ◌∙◌, ap, subst}
use Rattle.free_ends.proofs.Names.{nat_tests, and_parts, both_ways, cases_Bool, eqb-true, Edge, Pass, all_greater, covers, edge_cost, edge_of, edge_sum, edge_value, is_line_passed, is_strictly_increasing, pass_sum, walk_end_from}
use Rattle.free_ends.proofs.LinkLemmas.{AreNear, IsNear, Link, link_costs, link_ends}
use Rattle.free_ends.proofs.PassLemmas.{AreBeside, ends_at, first_step}
use Rattle.free_ends.proofs.WalkLemmas.{AreKnown}

-- each pass of a walk that leads somewhere has an edge
pub walk_known : (ns : List ℕ) (es : List Edge) (walk : List Pass) (at to : ℕ) → walk_end_from ns es (Some at) walk ≡ Some to
    → AreKnown ns es walk
walk_known ns es [] at to is = tt
walk_known ns es (p ∷ walk) at to is =
    let n = first_step ns es p walk at to is in
    ((n.1.edge, n.1.found), walk_known ns es walk n.0 to n.2)

module _ (ns : List ℕ) (es : List Edge) where
  -- passes without one of a line
  record Removed (line : ℕ) (walk : List Pass) : Type 0 where
    rest : List Pass
    sums : (f : Edge → ℕ) → pass_sum ns es f walk ≡ edge_value f (edge_of ns es line) + pass_sum ns es f rest
    kept : (n : ℕ) → (line == n) ≡ false → is_line_passed n walk ≡ true → is_line_passed n rest ≡ true
    known : AreKnown ns es rest

  remaining : (a b c d : Bool) → (a || b) ≡ true → a ≡ false → b ≡ true
  remaining true b c d is none = absurd (both_ways true none refl)
  remaining false b c d is none = is

  swapped : (a b c d : ℕ) → b ≡ c + d → a + b ≡ c + (a + d)
  swapped a b c d h = omega arith

  still : (a b c : Bool) → (b ≡ true → c ≡ true) → (a || b) ≡ true → (a || c) ≡ true
  still true b c f is = refl
  still false b c f is = f is

  remove : (line : ℕ) (walk : List Pass) → AreKnown ns es walk → is_line_passed line walk ≡ true → Removed line walk
  remove line [] known passed = absurd (both_ways false refl passed)
  remove line (q ∷ qs) known passed = elim (cases_Bool (q.line == line)) [
    | inl here ↦ record {
      rest = qs;
      sums = λ f. ap (λ (n : ℕ). edge_value f (edge_of ns es n) + pass_sum ns es f qs) (eqb-true q.line line here);
      kept = λ n other is. remaining (q.line == n) (is_line_passed n qs) true true is
          (subst (λ (m : ℕ). (m == n) ≡ false) (sym (eqb-true q.line line here)) other);
      known = known.1;
    }
    | inr other ↦
        let r = remove line qs known.1 (remaining (q.line == line) (is_line_passed line qs) true true passed other) in
        record {
          rest = q ∷ r.rest;
          sums = λ f. swapped _ _ _ _ (r.sums f);
          kept = λ n apart is. still (q.line == n) (is_line_passed n qs) (is_line_passed n r.rest) (r.kept n apart) is;
          known = (known.0, r.known);
        }
  ]

  -- the lines after a line are still covered
  still_covered : (line : ℕ) (ms : List ℕ) (walk rest : List Pass) → all_greater line ms ≡ true → covers ms walk ≡ true
      → ((n : ℕ) → (line == n) ≡ false → is_line_passed n walk ≡ true → is_line_passed n rest ≡ true) → covers ms rest ≡ true
  still_covered line [] walk rest up all kept = refl
  still_covered line (m ∷ ms) walk rest up all kept =
      let above = and_parts (nat_lt line m) (all_greater line ms) up in
      let parts = and_parts (is_line_passed m walk) (covers ms walk) all in
      rw (kept m (grind (arith, nat_tests, above.0)) parts.0) (still_covered line ms walk rest above.1 parts.1 kept)

  -- passes without one of each of some lines
  pub record Extra (edges : List Edge) (walk : List Pass) : Type 0 where
    pub rest : List Pass
    pub sums : (f : Edge → ℕ) → pass_sum ns es f walk ≡ edge_sum f edges + pass_sum ns es f rest
    pub known : AreKnown ns es rest

  extra_sum : (w a r e s : ℕ) → w ≡ a + r → r ≡ e + s → w ≡ (a + e) + s
  extra_sum w a r e s one two = omega arith

  pub extra : (ms : List ℕ) (edges : List Edge) (walk : List Pass) → length ms ≡ length edges → AreBeside ns es ms edges
      → is_strictly_increasing ms ≡ true → AreKnown ns es walk → covers ms walk ≡ true → Extra edges walk
  extra [] [] walk same are up known all = record { rest = walk; sums = λ f. omega arith; known = known }
  extra [] (e ∷ edges) walk same are up known all = absurd (omega (arith, same))
  extra (m ∷ ms) [] walk same are up known all = absurd are
  extra (m ∷ ms) (e ∷ edges) walk same are up known all =
      let above = and_parts (all_greater m ms) (is_strictly_increasing ms) up in
      let parts = and_parts (is_line_passed m walk) (covers ms walk) all in
      let r = remove m walk known parts.0 in
      let more = extra ms edges r.rest (omega (arith, same)) are.1 above.1 r.known
      (still_covered m ms walk r.rest above.0 parts.1 r.kept) in
      record {
        rest = more.rest;
        sums = λ f. extra_sum _ _ _ _ _ (r.sums f ∙ ap (λ (x : Option Edge). edge_value f x + pass_sum ns es f r.rest) are.0)
            (more.sums f);
        known = more.known;
      }

  -- the link along an edge, before others
  abbrev pub linked : Option Edge → List Link → List Link
  linked None ls = ls
  linked (Some e) ls = record { a = e.a; b = e.b; cost = e.cost } ∷ ls

  -- the links along the edges of passes
  abbrev pub pass_links : List Pass → List Link
  pass_links [] = []
  pass_links (p ∷ ps) = linked (edge_of ns es p.line) (pass_links ps)

  pub pass_link_ends : (v : ℕ) (ps : List Pass) → link_ends v (pass_links ps) ≡ pass_sum ns es (ends_at v) ps
  pass_link_ends v [] = refl
  pass_link_ends v (p ∷ ps) = by_edge (edge_of ns es p.line) (pass_link_ends v ps)
    where
      by_edge : (x : Option Edge) → link_ends v (pass_links ps) ≡ pass_sum ns es (ends_at v) ps
          → link_ends v (linked x (pass_links ps)) ≡ edge_value (ends_at v) x + pass_sum ns es (ends_at v) ps
      by_edge None rest = omega (arith, rest)
      by_edge (Some e) rest = omega (arith, rest)

  pub pass_link_costs : (ps : List Pass) → link_costs (pass_links ps) ≡ pass_sum ns es edge_cost ps
  pass_link_costs [] = refl
  pass_link_costs (p ∷ ps) = by_edge (edge_of ns es p.line) (pass_link_costs ps)
    where
      by_edge : (x : Option Edge) → link_costs (pass_links ps) ≡ pass_sum ns es edge_cost ps
          → link_costs (linked x (pass_links ps)) ≡ edge_value edge_cost x + pass_sum ns es edge_cost ps
      by_edge None rest = omega (arith, rest)
      by_edge (Some e) rest = omega (arith, rest)

  pub pass_links_near : (count : ℕ) (pot : ℕ → ℕ → ℕ)
      → ((n : ℕ) (e : Edge) → edge_of ns es n ≡ Some e → IsNear count pot e.a e.b e.cost)
      → (ps : List Pass) → AreNear count pot (pass_links ps)
  pass_links_near count pot near [] = tt
  pass_links_near count pot near (p ∷ ps) = by_edge (edge_of ns es p.line) refl (pass_links_near count pot near ps)
    where
      by_edge : (x : Option Edge) → edge_of ns es p.line ≡ x → AreNear count pot (pass_links ps)
          → AreNear count pot (linked x (pass_links ps))
      by_edge None is rest = rest
      by_edge (Some e) is rest = (near p.line e is, rest)
