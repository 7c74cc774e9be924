-- Walks of passes, and walks of edge indexes.
use Rattle.std.proofs.Common.{◌≡◌, ℕ, zero, suc, ◌<◌, ◌==◌, Bool, true, false, List, [], ◌∷◌, Option, Some, None, length, map, get_or, All, inl, inr, refl, sym, ap, ◌∙◌, arith}
use Rattle.std.specs.Prelude.{slice_get}
use Rattle.odd_paths.proofs.Names.{and_parts, nat_tests, All-cons, slice_get_within, if◌then◌else◌, Edge, Pass, IsValidPiece, PieceValue, edge_cost, edge_value, walk_end_from, IsLeastCost, IsLeastEdgeCost, IsEdgeWalk, Connects, edge_walk_cost, some_same, eq-eqb, eqb-true, all_greater, after_edge, edge_of, pass_sum, is_strictly_increasing, above_at, stays_lost}
use Rattle.odd_paths.proofs.PlaceLemmas.{none_is}

-- the edge of a line is at some index
placed : (lines : List ℕ) (es : List Edge) (line : ℕ) (e : Edge) → edge_of lines es line ≡ Some e → (k : ℕ) × (slice_get es k ≡ Some e)
placed [] es line e is = absurd (none_is e is)
placed (n ∷ lines) [] line e is = absurd (none_is e is)
placed (n ∷ lines) (x ∷ es) line e is = go (placed lines es line e) (line == n) is
  where
    go : (edge_of lines es line ≡ Some e → (k : ℕ) × (slice_get es k ≡ Some e)) → (test : Bool)
        → (if test then Some x else edge_of lines es line) ≡ Some e → (k : ℕ) × (slice_get (x ∷ es) k ≡ Some e)
    go later true is = (0, is)
    go later false is = let more = later is in (suc more.0, more.1)

test_some : (test : Bool) (x m : ℕ) → (if test then Some x else None) ≡ Some m → (test ≡ true) × (x ≡ m)
test_some true x m is = (refl, some_same x m is)
test_some false x m is = absurd (none_is m is)

-- a pass that leads on goes along an edge
links_by : (back : Bool) (e : Edge) (i m : ℕ) → after_edge (Some e) back i ≡ Some m → Connects e i m
links_by false e i m is = let both = test_some (e.a == i) e.b m is in inl (eqb-true _ _ both.0, both.1)
links_by true e i m is = let both = test_some (e.b == i) e.a m is in inr (eqb-true _ _ both.0, both.1)

along_edge : (found : Option Edge) (back : Bool) (i m : ℕ) → after_edge found back i ≡ Some m
    → (e : Edge) × (found ≡ Some e) × Connects e i m
along_edge None back i m is = absurd (none_is m is)
along_edge (Some e) back i m is = (e, refl, links_by back e i m is)

-- a walk of passes is a walk of edge indexes, at the same cost
to_places : (lines : List ℕ) (es : List Edge) (i j : ℕ) (walk : List Pass) → walk_end_from lines es (Some i) walk ≡ Some j
    → (ks : List ℕ) × IsEdgeWalk es i j ks × (edge_walk_cost es ks ≡ pass_sum lines es edge_cost walk)
to_places lines es i j [] leads = ([], some_same i j leads, refl)
to_places lines es i j (pass ∷ rest) leads =
    go (λ m on. to_places lines es m j rest on) (after_edge (edge_of lines es pass.line) pass.back i) refl leads
  where
    go : ((m : ℕ) → walk_end_from lines es (Some m) rest ≡ Some j
        → (ks : List ℕ) × IsEdgeWalk es m j ks × (edge_walk_cost es ks ≡ pass_sum lines es edge_cost rest))
        → (next : Option ℕ) → after_edge (edge_of lines es pass.line) pass.back i ≡ next → walk_end_from lines es next rest ≡ Some j
        → (ks : List ℕ) × IsEdgeWalk es i j ks × (edge_walk_cost es ks ≡ pass_sum lines es edge_cost (pass ∷ rest))
    go later None is on = absurd (none_is j (sym (stays_lost lines es rest) ∙ on))
    go later (Some m) is on =
        let e = along_edge (edge_of lines es pass.line) pass.back i m is in
        let k = placed lines es pass.line e.0 e.1 in
        let more = later m on in
        let at_place = ap (edge_value edge_cost) k.1 in
        let of_line = ap (edge_value edge_cost) e.1 in
        (k.0 ∷ more.0, (e.0, m, k.1, e.2, more.1), omega (arith, at_place, of_line, more.2))

edge_at : (lines : List ℕ) (es : List Edge) (k : ℕ) (e : Edge) → is_strictly_increasing lines ≡ true → length lines ≡ length es
    → slice_get es k ≡ Some e → edge_of lines es (get_or lines k 0) ≡ Some e
edge_at [] es k e rising beside got = absurd (omega (arith, slice_get_within es k e got, beside))
edge_at (n ∷ lines) [] k e rising beside got = absurd (none_is e got)
edge_at (n ∷ lines) (x ∷ es) zero e rising beside got = grind (arith, nat_tests)
edge_at (n ∷ lines) (x ∷ es) (suc k) e rising beside got =
    grind (
      arith,
      nat_tests,
      edge_at lines es k e (and_parts (all_greater n lines) (is_strictly_increasing lines) rising).1
          (omega (arith, beside)) got,
      and_parts (all_greater n lines) (is_strictly_increasing lines) rising,
      above_at n lines k
          (and_parts (all_greater n lines) (is_strictly_increasing lines) rising).0 (omega (arith, slice_get_within es k e got, beside)),
    )

along_pass : (e : Edge) (i m : ℕ) → Connects e i m → (back : Bool) × (after_edge (Some e) back i ≡ Some m)
along_pass e i m (inl both) = (false, rw (eq-eqb _ _ both.0) (ap (λ (n : ℕ). Some n) both.1))
along_pass e i m (inr both) = (true, rw (eq-eqb _ _ both.0) (ap (λ (n : ℕ). Some n) both.1))

-- the passes along edges given by index
pub record HasPasses (lines : List ℕ) (es : List Edge) (i j : ℕ) (ks : List ℕ) : Type 0 where
  pub walk : List Pass
  pub leads : walk_end_from lines es (Some i) walk ≡ Some j
  pub costs : pass_sum lines es edge_cost walk ≡ edge_walk_cost es ks
  pub along : map (λ (pass : Pass). pass.line) walk ≡ map (λ k. get_or lines k 0) ks
  pub there : All (λ k. k < length lines) ks

-- one more pass in front
passed_first : (lines : List ℕ) (es : List Edge) (i m j k : ℕ) (ks : List ℕ) (e : Edge) → slice_get es k ≡ Some e
    → edge_of lines es (get_or lines k 0) ≡ Some e → (back : Bool) → after_edge (Some e) back i ≡ Some m
    → k < length lines → HasPasses lines es m j ks → HasPasses lines es i j (k ∷ ks)
passed_first lines es i m j k ks e got at back onward there more =
    let goes_on : after_edge (edge_of lines es (get_or lines k 0)) back i ≡ Some m
    = ap (λ (found : Option Edge). after_edge found back i) at ∙ onward in
    let at_place = ap (edge_value edge_cost) got in
    let of_line = ap (edge_value edge_cost) at in
    record {
      walk = record { line = get_or lines k 0; back = back } ∷ more.walk;
      leads = ap (λ (next : Option ℕ). walk_end_from lines es next more.walk) goes_on ∙ more.leads;
      costs = omega (arith, at_place, of_line, more.costs);
      along = ap (λ (rest : List ℕ). get_or lines k 0 ∷ rest) more.along;
      there = All-cons (λ n. n < length lines) k ks there more.there;
    }

pub to_passes : (lines : List ℕ) (es : List Edge) (i j : ℕ) (ks : List ℕ) → is_strictly_increasing lines ≡ true → length lines ≡ length es
    → IsEdgeWalk es i j ks → HasPasses lines es i j ks
to_passes lines es i j [] rising beside walk = grind (arith, nat_tests)
to_passes lines es i j (k ∷ ks) rising beside walk =
    let pass = along_pass walk.0 i walk.1 walk.3 in
    passed_first lines es i walk.1 j k ks walk.0 walk.2 (edge_at lines es k walk.0 rising beside walk.2) pass.0 pass.1
    (omega (arith, slice_get_within es k walk.0 walk.2, beside)) (to_passes lines es walk.1 j ks rising beside walk.4)

-- least costs over edge indexes are those over passes
pub over_passes : (p : PieceValue) → IsValidPiece p → (i j d : ℕ) → IsLeastEdgeCost p.edges i j d → IsLeastCost p i j d
over_passes p keeps i j d least =
    let there = least.there in
    let passes = to_passes p.lines p.edges i j there.0 keeps.rising keeps.beside there.1 in
    record {
      walk = passes.walk;
      leads = passes.leads;
      costs = passes.costs ∙ there.2;
      least = λ other leads. (let walk = to_places p.lines p.edges i j other leads in
          omega (arith, least.least walk.0 walk.1, walk.2));
    }

pub over_places : (p : PieceValue) → IsValidPiece p → (i j d : ℕ) → IsLeastCost p i j d → IsLeastEdgeCost p.edges i j d
over_places p keeps i j d least =
    let walk = to_places p.lines p.edges i j least.walk least.leads in
    record {
      there = (walk.0, walk.1, walk.2 ∙ least.costs);
      least = λ ks other. (let passes = to_passes p.lines p.edges i j ks keeps.rising keeps.beside other in
          omega (arith, least.least passes.walk passes.leads, passes.costs));
    }
