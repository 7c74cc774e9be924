-- After a change of duals the step can be made, and the invariants still hold.
use Rattle.std.proofs.Common.{◌≡◌, ◌≢◌, ℕ, ◌+◌, ◌*◌, ◌^◌, ◌≤◌, ◌<◌, suc, zero, List, [], ◌∷◌, flat_map, length, arith, refl, sym, ap, subst, ◌∙◌}
use Rattle.blossom_match.proofs.Names.{nat_tests, Each, DualSet, OddSetValue, apart, dual_sets, count, height, dual_load, with_dual, match_members, match_dual_sets, IsMatch, IsSoundBranch, IsSoundMatch, IsSoundSet, outer_with_both, one_if_both, branch_dual_sets, inner_members, inner_sets, outer_members, outer_sets, IsAlternatingTree, stored_height, dual_height, search_holding_both, outer_vertices, IsSearch, IsLeastChange, CanSearch, IsReadyAfter, AllowsChange, all_changed, changed_by, CanChange, CanAdjust, ChangesDuals, Adjusts, TableValue, entry, IsMetric, IsTable, HasTriangleInequality, MAX_DISTANCE, BranchValue, MatchValue, SearchValue, SearchStep, DualChange, each-right, count-append, members-append, some_member, base_in, entry-comm, by_count, more_by, IsStepReady, CanChangeHeights, CanStepAfter, grown-right}
use Rattle.blossom_match.proofs.ScanLemmas.{apart_from}
use Rattle.blossom_match.proofs.SearchLemmas.{in_place, is_one, place_in}
use Rattle.blossom_match.proofs.FreeLemmas.{load_of, load_of-comm, under}
use Rattle.blossom_match.proofs.BoundLemmas.{height_limit, loads_apart}
use Rattle.blossom_match.proofs.DualLemmas.{outer_with_both-comm, around_same_all, between_in, between_out, branches_load, branches_tall, counted, matches_same, drop_changed, each_split, firm_changed, grown_same, inner_same, inside, more_wide, one_place, outer_limit, outer_same, set_limit, sizes_same, sound_up, wide_tall, within}

none_below : (v : ℕ) (bs : List DualSet) → length bs ≡ 0 → height v bs ≡ 0
none_below v [] e = refl
none_below v (b ∷ bs) e = absurd (omega arith)

narrow_case : (n : ℕ) (t : TableValue) (h : ℕ → ℕ) (by : ℕ) (b : BranchValue) → length b.inner.below ≡ n → AllowsChange by b
    → IsSoundBranch t h b → count b.up.to b.inner.members ≡ 1 → count b.pair.from b.inner.members ≡ 1
    → entry t b.up.from b.pair.to ≤ entry t b.up.from b.up.to + entry t b.up.to b.pair.to
    → h b.up.from + h b.pair.to + 2 * by ≤ 2 * entry t b.up.from b.pair.to → by ≤ b.inner.dual
narrow_case (suc n) t h by b e blossom f to from triangle slack = blossom (omega (arith, e))
narrow_case zero t h by b e blossom f to from triangle slack =
    let v = b.up.to in
    let same : v ≡ b.pair.from = one_place v b.pair.from b.inner.members (f.inner.kept.single e) (omega (arith, to)) (omega (arith, from))
    in
    let pair : 2 * entry t v b.pair.to ≡ h v + h b.pair.to = subst (λ (x : ℕ). 2 * entry t x b.pair.to ≡ h x + h b.pair.to)
    (sym same) f.pair in
    let tall : height v (dual_sets b.inner) ≡ h v = f.inner.local v (omega (arith, to)) in
    omega (arith, f.up, pair, triangle, slack, tall, none_below v b.inner.below e, ap (λ (k : ℕ). b.inner.dual * k) to)

-- each inner set has the dual of the change: a blossom by the bound on blossoms, a single place by the triangles
can_change : (t : TableValue) (h : ℕ → ℕ) (s : SearchValue) (c : DualChange) → IsTable t → HasTriangleInequality t → IsSearch t h s
    → IsLeastChange t h s c → 1 ≤ length s.free → Each (CanChange c.by) s.tree
can_change t h s c is tri i b some =
    let f = some_member s.free some in
    each_split (CanChange c.by) s.tree s.tree [] refl (λ bs k after e.
    let grown = grown-right s.root.members bs (k ∷ after) (subst (λ (ks : List BranchValue). IsAlternatingTree s.root.members ks) e i.grown)
    in
    let firm = (each-right (IsSoundBranch t h) bs (k ∷ after) (subst (λ (ks : List BranchValue). Each (IsSoundBranch t h) ks) e i.tree)).0
    in
    let blossom = (each-right (AllowsChange c.by) bs (k ∷ after) (subst (λ (ks : List BranchValue). Each (AllowsChange c.by) ks) e
    b.blossoms)).0 in
    let at = λ (x : ℕ). ap (λ (ks : List BranchValue). count x (outer_members s.root.members ks)) e
    ∙ members-append outer_sets x s.root.members bs (k ∷ after) in
    let on = λ (x : ℕ). count-append x k.outer.members (outer_members [] after) in
    let deep = λ (x : ℕ). ap (λ (ks : List BranchValue). count x (inner_members ks)) e ∙ members-append inner_sets x [] bs (k ∷ after) in
    let under = λ (x : ℕ). count-append x k.inner.members (inner_members after) in
    let from : 1 ≤ count k.up.from (outer_vertices s) = omega (arith, at k.up.from, grown.0) in
    let to : 1 ≤ count k.pair.to (outer_vertices s) = omega (arith, at k.pair.to, on k.pair.to, grown.3) in
    let apart : search_holding_both k.up.from k.pair.to s ≡ 0 = subst (λ (ks : List BranchValue). one_if_both k.up.from k.pair.to s.root
    + outer_with_both k.up.from k.pair.to ks ≡ 0) (sym e)
    (apart_from k.up.from k.pair.to s.root bs k after
    (λ x. omega (arith, i.places x, is_one, ap (λ (ks : List BranchValue). count x (outer_members s.root.members ks)) e)) grown.0
    (omega (arith, grown.3))) in
    record {
      fits = set_limit t h k.outer c.by firm.outer (λ x. omega (arith, i.places x, is_one t x, at x, on x))
          (λ x here. outer_limit t h s c x f.0 is i b f.1 (omega (arith, at x, on x, here)));
      wide = narrow_case (length k.inner.below) t h c.by k refl blossom firm grown.1 grown.2
          (tri k.up.from k.up.to (place_in t k.up.from (omega (arith, i.places k.up.from, from)))
          (place_in t k.up.to (omega (arith, i.places k.up.to, deep k.up.to, under k.up.to, grown.1)))
          k.pair.to (place_in t k.pair.to (omega (arith, i.places k.pair.to, to))))
          (b.two k.up.from k.pair.to from to apart);
    })

rise_case : (n by w limit : ℕ) → (o : ℕ) → o ≡ n → o ≤ 1 → w ≤ limit → (1 ≤ o → w + by ≤ limit) → w + by * o ≤ limit
rise_case zero by w limit o e few low up = omega (arith, low, ap (λ (k : ℕ). by * k) e)
rise_case (suc n) by w limit o e few low up =
    grind (arith, nat_tests)

fall_case : (n by w : ℕ) → (i : ℕ) → i ≡ n → (1 ≤ i → by * i ≤ w) → by * i ≤ w
fall_case zero by w i e down = omega (arith, ap (λ (k : ℕ). by * k) e)
fall_case (suc n) by w i e down = down (omega (arith, e))

-- the cells of the places of the tree
can_change_heights : (t : TableValue) (s : SearchValue) (c : DualChange) → IsMetric t → CanSearch t s
    → IsLeastChange t (stored_height s) s c → Each (CanChange c.by) s.tree → CanChangeHeights c.by s.root s.tree s.heights
can_change_heights t s c m can b wide = record {
  cells = λ x here. omega (arith, can.size, place_in t x (omega (arith, can.search.places x, here)));
  rise = λ x.
      let f = some_member s.free can.some in
      let i = can.search in
      omega (
        arith,
        rise_case (count x (outer_vertices s)) c.by (stored_height s x) (2 * MAX_DISTANCE) (count x (outer_vertices s)) refl
            (omega (arith, i.places x, is_one t x)) (height_limit t (stored_height s) s x f.0 m.table i f.1)
            (λ here. outer_limit t (stored_height s) s c x f.0 m.table i b f.1 here),
      );
  fall = λ x. fall_case (count x (inner_members s.tree)) c.by (stored_height s x) (count x (inner_members s.tree)) refl (λ here.
      let i = can.search in
      let no : count x (outer_members [] s.tree) ≡ 0 = omega
      (arith, i.places x, is_one t x, here, members-append outer_sets x s.root.members [] s.tree) in
      grind (arith, nat_tests, branches_tall x c.by s.tree wide, i.tall x (omega (arith, i.places x, is_one t x, here))));
}

pub can_adjust : (s : SearchValue) (c : DualChange) → CanAdjust s c →
    (s.root.dual + c.by < 2 ^ 32) × Each (CanChange c.by) s.tree × CanChangeHeights c.by s.root s.tree s.heights
can_adjust s c w =
    let i = w.can.search in
    let f = some_member s.free w.can.some in
    let wide = can_change w.t (stored_height s) s c w.metric.table w.metric.triangles i w.bounds w.can.some in (
      set_limit w.t (stored_height s) s.root c.by i.root (λ x. omega (arith, i.places x, is_one, base_in))
          (λ x here. outer_limit w.t (stored_height s) s c x f.0 w.metric.table i w.bounds f.1
          (omega (arith, base_in x s.root.members s.tree, here))),
      wide,
      can_change_heights w.t s c w.metric w.can w.bounds wide,
    )

-- how the heights move
moved : (by : ℕ) (s r : SearchValue) → ChangesDuals by s r → Each (CanChange by) s.tree → (x : ℕ) →
    dual_height r x + by * count x (inner_members s.tree) ≡ dual_height s x + by * count x (outer_vertices s)
moved by s r ch can x =
    omega (
      arith,
      branches_tall x by s.tree can,
      wide_tall x by s.root,
      ap (λ (v : OddSetValue). height x (dual_sets v)) ch.root,
      ap (λ (ks : List BranchValue). height x (branch_dual_sets ks)) ch.tree,
      ap (λ (cs : List MatchValue). height x (match_dual_sets cs)) ch.rest,
      more_by by _ _ _ (members-append outer_sets x s.root.members [] s.tree),
    )

one_slack : (t : TableValue) (h : ℕ → ℕ) (s : SearchValue) (c : DualChange) (a b : ℕ) → IsSearch t h s → IsLeastChange t h s c
    → b < t.places → 1 ≤ count a (outer_vertices s) → count b (inner_members s.tree) ≡ 0 → search_holding_both a b s ≡ 0
    → h a + h b + c.by ≤ 2 * entry t a b
one_slack t h s c a b i bd lb ha none apart = by_count (count b (outer_vertices s))
    (λ e. bd.one a b ha (omega (arith, i.places b, in_place t b lb, none, e)))
    (λ e. omega (arith, bd.two a b ha e apart))

abbrev apart_of : ℕ → ℕ → OddSetValue → ℕ
apart_of a b n = apart (count a n.members) (count b n.members)

-- the load between two places stays within its bound
loads_stay : (t : TableValue) (h : ℕ → ℕ) (s r : SearchValue) (c : DualChange) → IsSearch t h s → IsLeastChange t h s c
    → ChangesDuals c.by s r → Each (CanChange c.by) s.tree → (a b : ℕ) → a < t.places → b < t.places → a ≢ b
    → load_of r a b ≤ 2 * entry t a b
loads_stay t h s r c i bd ch can a b la lb ne =
    let by = c.by in
    let tree = s.tree in
    let bo = apart_of a b s.root + between_out a b tree in
    let root : dual_load a b (dual_sets r.root) ≡ dual_load a b (dual_sets s.root) + by * apart_of a b s.root =
    ap (λ (v : OddSetValue). dual_load a b (dual_sets v)) ch.root
    ∙ more_wide s.root.dual by (apart_of a b s.root) (dual_load a b s.root.below) _
    (dual_load a b (dual_sets s.root)) refl refl in
    let branches = ap (λ (ks : List BranchValue). dual_load a b (branch_dual_sets ks)) ch.tree in
    let rest = ap (λ (cs : List MatchValue). dual_load a b (match_dual_sets cs)) ch.rest in
    let oa = members-append outer_sets a s.root.members [] tree in
    let ob = members-append outer_sets b s.root.members [] tree in
    let pa = i.places a in
    let pb = i.places b in
    within (2 * entry t a b) (load_of s a b) (load_of r a b) by bo (between_in a b tree) (search_holding_both a b s) (inside a b tree)
    (count a (outer_vertices s)) (count b (outer_vertices s)) (count a (inner_members tree)) (count b (inner_members tree))
    (grind (arith, nat_tests, (between_out a b tree), (between_in a b tree), (branches_load a b by tree can)))
    (omega (arith, counted a b (flat_map outer_sets tree), oa, ob)) (counted a b (flat_map inner_sets tree))
    (omega (arith, pa, is_one t a)) (omega (arith, pb, is_one t b)) (i.loads a b la lb ne)
    (λ some none apart. by_count (count a (outer_vertices s))
    (λ e. let other : search_holding_both b a s ≡ 0 = omega (arith, apart, outer_with_both-comm a b s.tree) in
    omega (
      arith,
      load_of-comm s a b,
      loads_apart t h s b a i (omega (arith, some, e)) other,
      under t h s a i,
      under t h s b i,
      one_slack t h
          s c b a i bd la (omega (arith, some, e)) (omega (arith, none)) other,
      entry-comm t a b,
    ))
    (λ e. omega (
      arith,
      loads_apart t h s a b i e apart,
      under t h s a i,
      under t h s b i,
      one_slack t h s c a b i bd lb
          e (omega (arith, none)) apart,
    )))
    (λ two apart. omega (
      arith,
      loads_apart t h s a b i (omega (arith, two, pb, is_one t b)) apart,
      under t h s a i,
      under t h s b i,
      bd.two
          a b (omega (arith, two, pb, is_one t b)) (omega (arith, two, pa, is_one t a)) apart,
    ))

due_ready : (step : SearchStep) (t : TableValue) (h k : ℕ → ℕ) (s r : SearchValue) (by : ℕ) → ChangesDuals by s r
    → ((x : ℕ) → 1 ≤ count x (outer_vertices s) → k x ≡ h x + by)
    → ((x : ℕ) → 1 ≤ count x (match_members s.rest) + count x s.free → k x ≡ h x)
    → ((x : ℕ) → count x (outer_vertices r) ≡ count x (outer_vertices s)) → IsReadyAfter t h s by step → IsStepReady t k r step
due_ready step t h k s r by h1 h2 h3 h4 h5 = grind (arith, nat_tests, around_same_all, drop_changed)

rise : (by k h i o : ℕ) → k + by * i ≡ h + by * o → i ≡ 0 → o ≡ 1 → k ≡ h + by
rise by k h i o e g j = omega (arith, e, ap (λ (x : ℕ). by * x) g, ap (λ (x : ℕ). by * x) j)

fall : (by k h i o : ℕ) → k + by * i ≡ h + by * o → i ≡ 1 → o ≡ 0 → k + by ≡ h
fall by k h i o e g j = omega (arith, e, ap (λ (x : ℕ). by * x) g, ap (λ (x : ℕ). by * x) j)

stay : (by k h i o : ℕ) → k + by * i ≡ h + by * o → i ≡ 0 → o ≡ 0 → k ≡ h
stay by k h i o e g j = omega (arith, e, ap (λ (x : ℕ). by * x) g, ap (λ (x : ℕ). by * x) j)

-- a place of an outer set, of an inner set, or of none of them
at_most : (n m : ℕ) (P : Type 0) → n + m ≤ 1 → (n ≡ 1 → P) → (m ≡ 1 → P) → (n + m ≡ 0 → P) → P
at_most zero zero P few out inn rest = rest refl
at_most zero (suc m) P few out inn rest = inn (omega (arith, few))
at_most (suc n) m P few out inn rest = out (omega (arith, few))

steps_on : (t : TableValue) (s r : SearchValue) (c : DualChange) → ChangesDuals c.by s r → IsMetric t → CanSearch t s
    → IsLeastChange t (stored_height s) s c → CanStepAfter t c r
steps_on t s r c ch m cs b =
    let by = c.by in
    let h = stored_height s in
    let k = stored_height r in
    let i = cs.search in
    let can = can_change t h s c m.table m.triangles i b cs.some in
    let move = ch.heights in
    let one = λ (x : ℕ). is_one t x in
    let outer : (x : ℕ) → count x (outer_vertices r) ≡ count x (outer_vertices s) =
    λ x. ap (λ (v : OddSetValue). count x (outer_members v.members r.tree)) ch.root
    ∙ ap (λ (ks : List BranchValue). count x (outer_members s.root.members ks)) ch.tree
    ∙ ap (λ (xs : List ℕ). count x xs) (outer_same by s.root.members s.tree) in
    let inner : (x : ℕ) → count x (inner_members r.tree) ≡ count x (inner_members s.tree) =
    λ x. ap (λ (ks : List BranchValue). count x (inner_members ks)) ch.tree ∙ ap (λ (xs : List ℕ). count x xs) (inner_same by s.tree) in
    let up : (x : ℕ) → 1 ≤ count x (outer_vertices s) → k x ≡ h x + by =
    λ x here. rise by (k x) (h x) (count x (inner_members s.tree)) (count x (outer_vertices s)) (move x)
    (omega (arith, i.places x, one x, here)) (omega (arith, i.places x, one x, here)) in
    let down : (x : ℕ) → 1 ≤ count x (inner_members s.tree) → k x + by ≡ h x =
    λ x here. fall by (k x) (h x) (count x (inner_members s.tree)) (count x (outer_vertices s)) (move x)
    (omega (arith, i.places x, one x, here)) (omega (arith, i.places x, one x, here)) in
    let same : (x : ℕ) → 1 ≤ count x (match_members s.rest) + count x s.free → k x ≡ h x =
    λ x here. stay by (k x) (h x) (count x (inner_members s.tree)) (count x (outer_vertices s)) (move x)
    (omega (arith, i.places x, one x, here)) (omega (arith, i.places x, one x, here)) in
    record {
      search = record {
        tall = λ x none. grind (arith, nat_tests, move, moved, i.tall);
        slack = λ a f la hf ne.
            let hs : 1 ≤ count f s.free = omega (arith, hf, ap (λ (xs : List ℕ). count f xs) ch.free) in
            let was = i.slack a f la hs ne in
            let still = same f (omega (arith, hs)) in
            at_most (count a (outer_vertices s)) (count a (inner_members s.tree)) (k a + k f ≤ 2 * entry t a f)
            (omega (arith, i.places a, one a))
            (λ out. omega (arith, still, up a (omega (arith, out)), b.one a f (omega (arith, out)) (omega (arith, hs))))
            (λ inn. omega (arith, still, down a (omega (arith, inn)), was))
            (λ none. omega (arith, still, same a (omega (arith, none, i.places a, in_place t a la)), was));
        places = λ x. grind (arith, nat_tests, i.places x, outer x, inner x);
        grown = subst (λ (v : OddSetValue). IsAlternatingTree v.members r.tree) (sym ch.root)
            (subst (λ (ks : List BranchValue). IsAlternatingTree s.root.members ks) (sym ch.tree)
            (grown_same by s.root.members s.tree i.grown));
        joined = subst (λ (cs : List MatchValue). Each IsMatch cs) (sym ch.rest) i.joined;
        root = subst (λ (v : OddSetValue). IsSoundSet t k v) (sym ch.root)
            (sound_up t h k by s.root (λ x. omega (arith, i.places x, one x, base_in x s.root.members s.tree))
            (λ x here. up x (omega (arith, here, base_in x s.root.members s.tree))) i.root);
        tree = subst (λ (ks : List BranchValue). Each (IsSoundBranch t k) ks) (sym ch.tree)
            (firm_changed t h k by s.root.members s.tree i.grown can i.tree (λ x. omega (arith, i.places x, one x)) up down);
        rest = subst (λ (cs : List MatchValue). Each (IsSoundMatch t k) cs) (sym ch.rest)
            (matches_same t h k s.rest i.joined i.rest (λ x here. same x (omega (arith, here))));
        loads = loads_stay t h s r c i b ch can;
      };
      ready = due_ready c.step t h k s r by ch up same outer b.due;
      size = ch.size ∙ cs.size;
    }

pub adjusts : (s r : SearchValue) (c : DualChange) → ChangesDuals c.by s r → Adjusts s c r
adjusts s r c ch = record {
  search = λ t m can b. steps_on t s r c ch m can b;
  size = grind (arith, nat_tests, sizes_same c.by s.tree);
  free = ch.free;
}

-- a change of 0 leaves a branch as it is
changed_none : (by : ℕ) (b : BranchValue) → by ≡ 0 → changed_by by b ≡ b
changed_none by b e =
    ap (λ (w : ℕ). record {
      up = b.up;
      inner = with_dual w b.inner;
      pair = b.pair;
      outer = with_dual (b.outer.dual + by) b.outer;
    }) (omega (arith, e))
    ∙ ap (λ (w : ℕ). record { up = b.up; inner = b.inner; pair = b.pair; outer = with_dual w b.outer }) (omega (arith, e))

all_none : (by : ℕ) (bs : List BranchValue) → by ≡ 0 → all_changed by bs ≡ bs
all_none by [] e = refl
all_none by (b ∷ bs) e = grind (arith, nat_tests, changed_none, all_none by bs e)

no_times : (by n : ℕ) → by ≡ 0 → by * n ≡ 0
no_times by n e = omega (arith, ap (λ (k : ℕ). k * n) e)

-- and so it does a search
pub stays : (s : SearchValue) (c : DualChange) → c.by ≡ 0 → Adjusts s c s
stays s c h1 = grind (arith, nat_tests, adjusts, all_none)
