-- Loads between sets as heights, and the slack between places.
use Rattle.std.proofs.Common.{◌≡◌, ◌≢◌, ℕ, ◌+◌, ◌-◌, ◌*◌, ◌<◌, ◌≤◌, ◌⊎◌, List, [], ◌∷◌, ◌++◌, length, get_or, arith, refl, sym, ap, subst, ◌∙◌}
use Rattle.blossom_match.proofs.Names.{nat_tests, Each, OddSetValue, dual_sets, count, height, dual_load, match_members, match_dual_sets, IsSoundBranch, IsSoundMatch, outer_with_both, one_if_both, branch_dual_sets, inner_members, dual_height, search_holding_both, outer_vertices, IsSearch, TableValue, entry, IsTable, IsLeastChange, IsReadyAfter, IsLesserChange, IsBlossomDual, AreOuterSlacks, IsBestCandidate, IsCandidateAmong, CanFindEdge, FAR, Target, Kind, MAX_DISTANCE, BranchValue, MatchValue, SearchValue, SearchStep, DualChange, either, far_is, count-append, height-append, dual_load-append, low, some_member, around_same, base_in, around_none, entry-comm, by_count, by_either, IsOddSet, step_of, change_at, target_vertices, IsCandidate, IsCandidateChange, load_across, load_along, two_even}
use Rattle.odd_sets.specs.Heights.{HeightsAre}
use Rattle.blossom_match.specs.declared.least.Kind.TheVariants as kind
use Rattle.blossom_match.proofs.SearchLemmas.{is_one, place_in, low_branches, low_matches}
use Rattle.blossom_match.proofs.FreeLemmas.{load_of}

-- a set that does not hold both places
load_either : (a b : ℕ) (s : OddSetValue) → IsOddSet s → one_if_both a b s ≡ 0
    → dual_load a b (dual_sets s) ≡ height a (dual_sets s) + height b (dual_sets s)
load_either a b s h1 h2 = grind (arith, nat_tests, by_count, load_across, load_along)

load_branches : (d : TableValue) (h : ℕ → ℕ) (a b : ℕ) (tree : List BranchValue) → Each (IsSoundBranch d h) tree
    → count a (inner_members tree) ≡ 0 → outer_with_both a b tree ≡ 0
    → dual_load a b (branch_dual_sets tree) ≡ height a (branch_dual_sets tree) + height b (branch_dual_sets tree)
load_branches d h a b [] f none apart = refl
load_branches d h a b (c ∷ cs) f none apart =
    let n = count-append a c.inner.members (inner_members cs) in
    omega (
      arith,
      load_across a b c.inner f.0.inner.kept (omega (arith, n, none)),
      load_either a b c.outer f.0.outer.kept (omega (arith, apart)),
      load_branches d h a b cs f.1 (omega (arith, n, none)) (omega (arith, apart)),
      dual_load-append a b (dual_sets c.inner) (dual_sets c.outer ++ branch_dual_sets cs),
      dual_load-append a b (dual_sets c.outer) (branch_dual_sets cs),
      height-append a (dual_sets c.inner) (dual_sets c.outer ++ branch_dual_sets cs),
      height-append a (dual_sets c.outer) (branch_dual_sets cs),
      height-append b (dual_sets c.inner) (dual_sets c.outer ++ branch_dual_sets cs),
      height-append b (dual_sets c.outer) (branch_dual_sets cs),
    )

load_matches : (d : TableValue) (h : ℕ → ℕ) (a b : ℕ) (cs : List MatchValue) → Each (IsSoundMatch d h) cs → count a (match_members cs) ≡ 0
    → dual_load a b (match_dual_sets cs) ≡ height a (match_dual_sets cs) + height b (match_dual_sets cs)
load_matches d h a b [] f none = refl
load_matches d h a b (c ∷ cs) f none =
    let n = count-append a c.first.members (c.second.members ++ match_members cs) in
    let m = count-append a c.second.members (match_members cs) in
    omega (
      arith,
      load_across a b c.first f.0.first.kept (omega (arith, n, none)),
      load_across a b c.second f.0.second.kept (omega (arith, n, m, none)),
      load_matches d h a b cs f.1 (omega (arith, n, m, none)),
      dual_load-append a b (dual_sets c.first) (dual_sets c.second ++ match_dual_sets cs),
      dual_load-append a b (dual_sets c.second) (match_dual_sets cs),
      height-append a (dual_sets c.first) (dual_sets c.second ++ match_dual_sets cs),
      height-append a (dual_sets c.second) (match_dual_sets cs),
      height-append b (dual_sets c.first) (dual_sets c.second ++ match_dual_sets cs),
      height-append b (dual_sets c.second) (match_dual_sets cs),
    )

-- between an outer place and a place that no set holds with it, the heights are the load
pub loads_apart : (t : TableValue) (h : ℕ → ℕ) (s : SearchValue) (a b : ℕ) → IsSearch t h s → 1 ≤ count a (outer_vertices s)
    → search_holding_both a b s ≡ 0 → load_of s a b ≡ dual_height s a + dual_height s b
loads_apart t h s a b h1 h2 h3 = grind (arith, nat_tests, is_one, load_either, load_branches, load_matches)

-- a place that is not free
tall_set : (t : TableValue) (h : ℕ → ℕ) (s : SearchValue) (x : ℕ) → IsSearch t h s
    → 1 ≤ count x (outer_vertices s) + count x (match_members s.rest) → h x ≡ dual_height s x
tall_set t h s x i here = i.tall x (omega (arith, i.places x, is_one t x, here))

pub not_both : (s : SearchValue) (a b : ℕ) → count b (outer_vertices s) ≡ 0 → search_holding_both a b s ≡ 0
not_both s a b none = omega (arith, around_none a b s.root.members s.tree none, base_in b s.root.members s.tree, none)

differ_in : (a b : ℕ) (xs ys : List ℕ) → ((x : ℕ) → count x xs + count x ys ≤ 1) → 1 ≤ count a xs → 1 ≤ count b ys → a ≢ b
differ_in a b xs ys once ha hb e = omega (arith, once b, hb, ha, ap (λ (x : ℕ). count x xs) e)

-- an outer place and a free one
pub free_slack : (t : TableValue) (h : ℕ → ℕ) (s : SearchValue) (a b : ℕ) → IsSearch t h s → 1 ≤ count a (outer_vertices s)
    → 1 ≤ count b s.free → h a + h b ≤ 2 * entry t a b
free_slack t h s a b h1 h2 h3 = grind (arith, nat_tests, place_in, differ_in, is_one)

matched_slack : (t : TableValue) (h : ℕ → ℕ) (s : SearchValue) (a b : ℕ) → IsSearch t h s → 1 ≤ count a (outer_vertices s)
    → 1 ≤ count b (match_members s.rest) → h a + h b ≤ 2 * entry t a b
matched_slack t h s a b i ha hb =
    let ne = differ_in a b (outer_vertices s) (match_members s.rest) (λ x. omega (arith, i.places x, is_one t x)) ha hb in
    let l = i.loads a b (place_in t a (omega (arith, i.places a, ha))) (place_in t b (omega (arith, i.places b, hb))) ne in
    omega (
      arith,
      l,
      loads_apart t h s a b i ha (not_both s a b (omega (arith, i.places b, is_one t b, hb))),
      tall_set t h s a i
          (omega (arith, ha)),
      tall_set t h s b i (omega (arith, hb)),
    )

outer_slack : (t : TableValue) (h : ℕ → ℕ) (s : SearchValue) (a b : ℕ) → IsSearch t h s → 1 ≤ count a (outer_vertices s)
    → 1 ≤ count b (outer_vertices s) → search_holding_both a b s ≡ 0 → h a + h b ≤ 2 * entry t a b
outer_slack t h s a b i ha hb apart =
    let l = i.loads a b (place_in t a (omega (arith, i.places a, ha))) (place_in t b (omega (arith, i.places b, hb)))
    (grind (arith, nat_tests, around_same)) in
    omega (arith, l, loads_apart t h s a b i ha apart, tall_set t h s a i (omega (arith, ha)), tall_set t h s b i (omega (arith, hb)))

set_in_root : (s : SearchValue) (r : ℕ) → 1 ≤ count r s.root.members → 1 ≤ count r (outer_vertices s)
set_in_root s r here = omega (arith, here, base_in r s.root.members s.tree)

-- while a place is free, no height is more than twice the largest distance
pub height_limit : (t : TableValue) (h : ℕ → ℕ) (s : SearchValue) (x f : ℕ) → IsTable t → IsSearch t h s → 1 ≤ count f s.free
    → h x ≤ 2 * MAX_DISTANCE
height_limit t h s x f is i hf = by_count (count x (outer_vertices s) + count x (inner_members s.tree)
    + count x (match_members s.rest))
    (λ e. by_count (count x s.free)
    (λ none. omega (
      arith,
      i.tall x none,
      low x s.root i.root.kept (omega (arith, base_in x s.root.members s.tree, e)),
      low_branches t h x s.root.members s.tree i.tree (omega (arith, e)) (omega (arith, e)),
      low_matches t h x s.rest i.rest (omega (arith, e)),
    ))
    (λ some. let r = some_member s.root.members (omega (arith, i.root.kept.odd)) in
    let ho = set_in_root s r.0 r.1 in
    let lr = place_in t r.0 (omega (arith, i.places r.0, ho)) in
    omega (arith, free_slack t h s r.0 x i ho some, is.short r.0 x lr (place_in t x (omega (arith, i.places x, some))))))
    (λ e. let lx = place_in t x (omega (arith, i.places x, e)) in
    let lf = place_in t f (omega (arith, i.places f, hf)) in
    let ne : x ≢ f = λ g. grind (arith, nat_tests, i.places f, is_one t f, hf, e) in
    omega (arith, i.slack x f lx hf ne, is.short x f lx lf))

aimed_case : (s : SearchValue) (hs reach : List ℕ) (k : Kind) (aim : Target) → IsCandidateAmong hs reach k (target_vertices s k) aim
    → IsCandidate s hs reach aim
aimed_case s hs reach k aim a = record {
  there = subst (λ (j : Kind). 1 ≤ count aim.to (target_vertices s j)) (sym a.kind) a.there;
  near = a.near;
  by = subst (λ (j : Kind). aim.by ≡ change_at hs reach j aim.to) (sym a.kind) a.by;
}

-- the lesser of two aims leads to such a place too
still_aimed : (s : SearchValue) (hs reach : List ℕ) (k : Kind) (old new : Target) → IsCandidate s hs reach old
    → (new ≡ old) ⊎ IsCandidateAmong hs reach k (target_vertices s k) new → IsCandidate s hs reach new
still_aimed s hs reach k old new h1 h2 = grind (arith, nat_tests, aimed_case)

-- what is known of the aims of a search
pub record IsAimedAt (t : TableValue) (h : ℕ → ℕ) (s : SearchValue) (hs reach : List ℕ) (first met grown crossed : Target) : Type 0 where
  pub table : IsTable t
  pub search : IsSearch t h s
  pub heights : HeightsAre hs h
  pub size : length hs ≡ t.places
  pub reaches : AreOuterSlacks t hs s.root s.tree reach
  pub at_first : IsCandidateAmong hs reach kind.Augment s.free first
  pub at_met : IsBestCandidate hs reach kind.Augment s.free first met
  pub at_grown : IsBestCandidate hs reach kind.Grow (match_members s.rest) met grown
  pub at_crossed : IsBestCandidate hs reach kind.Shrink (outer_vertices s) grown crossed

pub aimed : (t : TableValue) (h : ℕ → ℕ) (s : SearchValue) (hs reach : List ℕ) (first met grown crossed : Target)
    → IsAimedAt t h s hs reach first met grown crossed → IsCandidate s hs reach crossed
aimed t h s hs reach first met grown crossed a =
    still_aimed s hs reach kind.Shrink grown crossed
    (still_aimed s hs reach kind.Grow met grown
    (still_aimed s hs reach kind.Augment first met (aimed_case s hs reach kind.Augment first a.at_first) a.at_met.is) a.at_grown.is)
    a.at_crossed.is

-- an outer vertex has the slack of the last candidate
pub leads_on : (t : TableValue) (h : ℕ → ℕ) (s : SearchValue) (hs reach : List ℕ) (first met grown crossed : Target)
    → IsAimedAt t h s hs reach first met grown crossed → CanFindEdge t hs s.root s.tree reach crossed
leads_on t h s hs reach first met grown crossed a =
    let i = a.search in
    let on = aimed t h s hs reach first met grown crossed a in
    record {
      can = record {
        cells = a.size;
        within = λ x here. place_in t x (omega (arith, i.places x, here));
        once = λ x. omega (arith, i.places x, is_one t x);
      };
      reaches = a.reaches;
      within = grind (arith, nat_tests, place_in, crossed.kind, on.there);
      near = on.near;
    }

-- an outer vertex has the slack to a vertex that isn't outer
is_near : (t : TableValue) (h : ℕ → ℕ) (s : SearchValue) (hs reach : List ℕ) (a b : ℕ) → IsTable t → IsSearch t h s
    → AreOuterSlacks t hs s.root s.tree reach → 1 ≤ count a (outer_vertices s) → b < t.places → count b (outer_vertices s) ≡ 0
    → (get_or reach b 0 < FAR) × (get_or reach b 0 ≤ 2 * entry t a b - get_or hs a 0)
is_near t h s hs reach a b is i r ha lb none =
    let low = r.least a b ha lb none in
    (omega (arith, low, far_is, is.short a b (place_in t a (omega (arith, i.places a, ha))) lb), low)

-- each free place is reached
pub free_near : (t : TableValue) (h : ℕ → ℕ) (s : SearchValue) (hs reach : List ℕ) (b : ℕ) → IsTable t → IsSearch t h s
    → AreOuterSlacks t hs s.root s.tree reach → 1 ≤ count b s.free → get_or reach b 0 < FAR
free_near t h s hs reach b is i r hb =
    let a = some_member s.root.members (omega (arith, i.root.kept.odd)) in
    (is_near t h s hs reach a.0 b is i r (set_in_root s a.0 a.1) (place_in t b (omega (arith, i.places b, hb)))
    (omega (arith, i.places b, is_one t b, hb))).0

due_case : (k : Kind) (t : TableValue) (h : ℕ → ℕ) (s : SearchValue) (hs reach : List ℕ) (from to by : ℕ) → IsSearch t h s → HeightsAre hs h
    → 1 ≤ count from (outer_vertices s) → search_holding_both from to s ≡ 0 → get_or reach to 0 ≡ 2 * entry t from to - get_or hs from 0
    → 1 ≤ count to (target_vertices s k) → by ≡ change_at hs reach k to
    → IsReadyAfter t h s by (step_of k (record { from = from; to = to }))
due_case kind.Augment t h s hs reach from to by i at here apart exact there is =
    (here, there, omega (arith, at from, at to, exact, is, free_slack t h s from to i here there))
due_case kind.Grow t h s hs reach from to by i at here apart exact there is =
    (here, there, omega (arith, at from, at to, exact, is, matched_slack t h s from to i here there))
due_case kind.Shrink t h s hs reach from to by i at here apart exact there is = (
  here,
  there,
  apart,
  omega (
    arith,
    at from,
    at to,
    exact,
    is,
    outer_slack t h s from to i here there apart,
    two_even t h s.root s.tree i.grown i.root i.tree from to (omega (arith, here)) (omega (arith, there)),
  ),
)

due_aimed : (t : TableValue) (h : ℕ → ℕ) (s : SearchValue) (hs reach : List ℕ) (aim : Target) (c : DualChange) → IsSearch t h s
    → HeightsAre hs h → IsCandidate s hs reach aim → IsCandidateChange t hs s.root s.tree reach aim c → IsReadyAfter t h s c.by c.step
due_aimed t h s hs reach aim c i at is l =
    subst (λ (st : SearchStep). IsReadyAfter t h s c.by st) (sym l.step)
    (due_case aim.kind t h s hs reach l.from aim.to c.by i at l.here l.apart l.exact is.there (l.by ∙ is.by))

due_now : (t : TableValue) (h : ℕ → ℕ) (s : SearchValue) (old new : DualChange) → IsReadyAfter t h s old.by old.step
    → (new ≡ old) ⊎ IsBlossomDual s.tree new → IsReadyAfter t h s new.by new.step
due_now t h s old new h1 h2 = grind (arith, nat_tests)

-- after the least of all changes no slack is negative, and its step can be made
pub bounds_of : (t : TableValue) (h : ℕ → ℕ) (s : SearchValue) (hs reach : List ℕ) (first met grown crossed : Target) (c new : DualChange)
    → IsAimedAt t h s hs reach first met grown crossed → IsCandidateChange t hs s.root s.tree reach crossed c → IsLesserChange s.tree c new
    → IsLeastChange t h s new
bounds_of t h s hs reach first met grown crossed c new a l n =
    let i = a.search in
    let at = a.heights in
    let on = λ (x : ℕ) (here : 1 ≤ count x (outer_vertices s)). place_in t x (omega (arith, i.places x, here)) in
    let near = λ (x y : ℕ) (hx : 1 ≤ count x (outer_vertices s)) (hy : 1 ≤ count y (match_members s.rest) + count y s.free).
    is_near t h s hs reach x y a.table i a.reaches hx (place_in t y (omega (arith, i.places y, hy)))
    (omega (arith, i.places y, is_one t y, hy)) in
    record {
      one = λ x y hx hy. either (count y (match_members s.rest)) (count y s.free)
          (λ here.
          let k = near x y hx hy in
          omega (arith, at x, at y, k.1, a.at_grown.wide y here k.0, a.at_crossed.less, l.by, n.less, matched_slack t h s x y i hx here))
          (λ here.
          let k = near x y hx hy in
          omega (
            arith,
            at x,
            at y,
            k.1,
            a.at_met.wide y here k.0,
            a.at_grown.less,
            a.at_crossed.less,
            l.by,
            n.less,
            free_slack t h s x y i hx here,
          )) hy;
      two = λ x y hx hy apart. by_either
          (λ low. let near : get_or reach y 0 < FAR = omega (arith, low, far_is, a.table.short x y (on x hx) (on y hy)) in
          omega (arith, at x, at y, low, a.at_crossed.wide y hy near, l.by, n.less, outer_slack t h s x y i hx hy apart))
          (λ low. let near : get_or reach x 0 < FAR = omega (arith, low, far_is, a.table.short y x (on y hy) (on x hx)) in
          omega (arith, at x, at y, low, a.at_crossed.wide x hx near, l.by, n.less, outer_slack t h s x y i hx hy apart, entry-comm t x y))
          (a.reaches.both x y hx hy (on x hx) (on y hy) apart);
      blossoms = n.wide;
      due = due_now t h s c new (due_aimed t h s hs reach crossed c i at (aimed t h s hs reach first met grown crossed a) l) n.is;
    }
