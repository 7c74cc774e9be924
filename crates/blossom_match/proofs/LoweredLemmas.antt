-- The slacks from the outer vertices after a change of duals.
use Rattle.std.proofs.Common.{◌≡◌, ℕ, ◌+◌, ◌-◌, ◌≤◌, ◌<◌, inl, inr, List, [], ◌∷◌, length, get_or, arith, refl, sym, ap, subst, ◌∙◌, take, drop}
use Rattle.blossom_match.proofs.Names.{nat_tests, OddSetValue, count, FoldsCells, FoldsOuters, Each, IsSoundBranch, IsSoundSet, outer_members, count_holding_both, stored_height, outer_vertices, Advances, CanStep, CanStepAt, ExpandsBranch, GrowsBranch, IsSearch, ChangesDuals, Shrinks, lowered_slack, slack_from, HasSlackCells, AreOuterSlacks, AddsOuterSlacks, AreSearchSlacks, HasSlacks, HasSoundOuters, TableValue, IsTable, FAR, BranchValue, SearchValue, TightEdge, SearchStep, Expand, Shrink, each-right, far_is, lowered_far, by_either, SearchHasSoundOuters, CarriesSlacks, ComputesRootSlacks, drop_past, lowered_less, lowered_near}
use Rattle.blossom_match.proofs.OuterSlackLemmas.{reaches_apart}
use Rattle.blossom_match.proofs.FoldLemmas.{folded, set_within}
use Rattle.blossom_match.proofs.SearchLemmas.{is_one, place_in, shrunk}
use Rattle.blossom_match.proofs.DualLemmas.{around_same_all, outer_same}

-- the same places, the same sets, and heights that rise
record IsRaised (t : TableValue) (by : ℕ) (s r : SearchValue) : Type 0 where
  pub table : IsTable t
  pub places : (a : ℕ) → 1 ≤ count a (outer_vertices s) → a < t.places
  pub outs : (a : ℕ) → count a (outer_vertices r) ≡ count a (outer_vertices s)
  pub holds : (a x : ℕ) → count_holding_both a x r.root r.tree ≡ count_holding_both a x s.root s.tree
  pub high : (a : ℕ) → 1 ≤ count a (outer_vertices s) → get_or r.heights a 0 ≡ get_or s.heights a 0 + by

is_raised : (t : TableValue) (by : ℕ) (s r : SearchValue) → IsTable t → IsSearch t (stored_height s) s → ChangesDuals by s r
    → IsRaised t by s r
is_raised t by s r h1 h2 h3 = grind (arith, nat_tests, place_in, outer_same, around_same_all, is_one)

left_lower : (t : TableValue) (by : ℕ) (s r : SearchValue) (a x : ℕ) → IsRaised t by s r → 1 ≤ count a (outer_vertices s)
    → slack_from t r.heights a x ≡ slack_from t s.heights a x - by
left_lower t by s r a x k ha = omega (arith, k.high a ha)

left_near : (t : TableValue) (by : ℕ) (s r : SearchValue) (a x : ℕ) → IsRaised t by s r → 1 ≤ count a (outer_vertices s) → x < t.places
    → slack_from t s.heights a x < FAR
left_near t by s r a x k ha lx = omega (arith, far_is, k.table.short a x (k.places a ha) lx)

least_lower : (t : TableValue) (by : ℕ) (s r : SearchValue) (a x old new : ℕ) → IsRaised t by s r → 1 ≤ count a (outer_vertices s)
    → x < t.places → old ≤ slack_from t s.heights a x → new ≡ lowered_slack by old → new ≤ slack_from t r.heights a x
least_lower t by s r a x old new h1 h2 h3 h4 h5 = grind (arith, nat_tests, lowered_near, left_near, left_lower)

-- all slacks are less by the change
pub still_reaches : (t : TableValue) (by : ℕ) (s r : SearchValue) (old new : List ℕ) → IsTable t → IsSearch t (stored_height s) s
    → ChangesDuals by s r → AreSearchSlacks t s old → length new ≡ length old
    → ((x : ℕ) → x < length new → get_or new x 0 ≡ lowered_slack by (get_or old x 0)) → AreSearchSlacks t r new
still_reaches t by s r old new is i ch reaches size at =
    let k = is_raised t by s r is i ch in
    let cell : (x : ℕ) → x < t.places → get_or new x 0 ≡ lowered_slack by (get_or old x 0) =
    λ x lx. at x (omega (arith, lx, size, reaches.size)) in
    record {
      size = size ∙ reaches.size;
      short = λ x lx. omega (arith, cell x lx, lowered_less by (get_or old x 0), reaches.short x lx);
      least = λ a x ha lx none.
          let here : 1 ≤ count a (outer_vertices s) = omega (arith, ha, k.outs a) in
          least_lower t by s r a x (get_or old x 0) (get_or new x 0) k here lx
          (reaches.least a x here lx (sym (k.outs x) ∙ none)) (cell x lx);
      both = λ a b ha hb la lb apart.
          let first : 1 ≤ count a (outer_vertices s) = omega (arith, ha, k.outs a) in
          let second : 1 ≤ count b (outer_vertices s) = omega (arith, hb, k.outs b) in
          by_either
          (λ low. inl (least_lower t by s r a b (get_or old b 0) (get_or new b 0) k first lb low (cell b lb)))
          (λ low. inr (least_lower t by s r b a (get_or old a 0) (get_or new a 0) k second la low (cell a la)))
          (reaches.both a b first second la lb (sym (k.holds a b) ∙ apart));
      is = λ x lx. by_either
          (λ far. inl (cell x lx ∙ lowered_far by (get_or old x 0) far))
          (λ l. inr (record {
            a = l.a;
            here = omega (arith, l.here, k.outs l.a);
            apart = k.holds l.a x ∙ l.apart;
            exact = omega (
              arith,
              cell x lx,
              l.exact,
              lowered_near by (get_or old x 0) (omega (arith, l.exact, left_near t by s r l.a x k l.here lx)),
              left_lower t by s r l.a x k l.here,
            );
          }))
          (reaches.is x lx);
    }

-- what the sets of a search make of its heights
pub searched : (t : TableValue) (s : SearchValue) → IsSearch t (stored_height s) s → SearchHasSoundOuters t s
searched t s h1 = grind (arith, nat_tests, is_one)

-- the slacks from a root without branches
pub begins_reach : (t : TableValue) (s : SearchValue) (new : List ℕ) → IsSearch t (stored_height s) s → s.tree ≡ []
    → length new ≡ t.places → ComputesRootSlacks s.root new → AreSearchSlacks t s new
begins_reach t s new i none size all =
    subst (λ (ks : List BranchValue). AreOuterSlacks t s.heights s.root ks new) (sym none)
    (all t s.heights (subst (λ (ks : List BranchValue). HasSoundOuters t s.heights s.root ks) none (searched t s i)) size)

-- the search that the step leads to
can_take_at : (t : TableValue) (s r : SearchValue) (st now : SearchStep) → st ≡ now → CanStepAt t s st → Advances s now r
    → SearchHasSoundOuters t r
can_take_at t s r st now e k adv =
    let on = subst (λ (st : SearchStep). CanStepAt t s st) e k in
    searched t r (subst (λ (hs : List ℕ). IsSearch t (λ (x : ℕ). get_or hs x 0) r) (sym adv.heights)
    (adv.search t (stored_height s) on.search on.ready))

pub is_reachable : (t : TableValue) (s r : SearchValue) (st now : SearchStep) (reach : List ℕ) → st ≡ now → CanStepAt t s st
    → Advances s now r → AreSearchSlacks t s reach → HasSlackCells r reach
is_reachable t s r st now reach e k adv reaches = record { t = t; can = can_take_at t s r st now e k adv; size = reaches.size }

-- what a set that is folded into a search is
record IsFolded (t : TableValue) (set : OddSetValue) (r : SearchValue) : Type 0 where
  pub sound : IsSoundSet t (stored_height r) set
  pub once : (x : ℕ) → count x set.members ≤ 1
  pub within : (x : ℕ) → 1 ≤ count x set.members → x < t.places

is_folded : (t : TableValue) (link : TightEdge) (set : OddSetValue) (s r : SearchValue) → CanStepAt t s (Shrink link)
    → Advances s (Shrink link) r → FoldsOuters set s.root r.root s.tree r.tree → IsFolded t set r
is_folded t link set s r can adv f =
    let i = subst (λ (hs : List ℕ). IsSearch t (λ (x : ℕ). get_or hs x 0) r) (sym adv.heights)
    (adv.search t (stored_height s) can.search can.ready) in
    let held = λ (x : ℕ). set_within x set s.root r.root s.tree r.tree f in
    record {
      sound = f.sound t (stored_height r) i.root i.tree;
      once = λ x. omega (arith, held x, i.places x, is_one t x);
      within = λ x here. place_in t x (omega (arith, i.places x, held x, here));
    }

-- the row of the blossom has a cell for each vertex, and so do its vertices
pub folds_row : (link : TightEdge) (set root : OddSetValue) (s : SearchValue) (tree : List BranchValue) (old : List ℕ)
    → CanStep s (Shrink link) → Shrinks set link s.root root s.tree tree → length old ≡ length s.heights → HasSlacks (length old) set
folds_row link set root s tree old k sh size =
    (is_folded k.t link set s _ k.can (shrunk set link s root tree s.rest sh refl) sh.folds).sound.near.0.size ∙ sym (size ∙ k.can.size)

pub folds_cells : (link : TightEdge) (set root : OddSetValue) (s : SearchValue) (tree : List BranchValue) (old : List ℕ)
    → CanStep s (Shrink link) → Shrinks set link s.root root s.tree tree → length old ≡ length s.heights
    → (x : ℕ) → 1 ≤ count x set.members → x < length old
folds_cells link set root s tree old k sh size x here =
    omega (arith, (is_folded k.t link set s _ k.can (shrunk set link s root tree s.rest sh refl) sh.folds).within x here, size, k.can.size)

-- the blossom is taken into the slacks
pub carries : (link : TightEdge) (set : OddSetValue) (s r : SearchValue) (old new : List ℕ) → Advances s (Shrink link) r
    → FoldsOuters set s.root r.root s.tree r.tree → length new ≡ length old → FoldsCells set old new
    → CarriesSlacks (Shrink link) s r old new
carries link set s r old new adv f size cells t can reaches =
    let k = is_folded t link set s r can adv f in
    folded t r.heights set s.root r.root s.tree r.tree old new f k.sound k.once size cells
    (subst (λ (hs : List ℕ). AreOuterSlacks t hs s.root s.tree old) (sym adv.heights) reaches)

-- its newest outer set is taken in
pub one_more : (t : TableValue) (s r : SearchValue) (st now : SearchStep) (old new : List ℕ) → st ≡ now → CanStepAt t s st
    → Advances s now r
    → GrowsBranch s r → AreSearchSlacks t s old → AddsOuterSlacks (take 1 (drop (length s.tree) r.tree)) old new → AreSearchSlacks t r new
one_more t s r st now old new e k adv hangs reaches on =
    let can = can_take_at t s r st now e k adv in
    let firm = λ (b : BranchValue). IsSoundBranch t (λ (x : ℕ). get_or r.heights x 0) b in
    let newest : take 1 (drop (length s.tree) r.tree) ≡ hangs.branch ∷ [] =
    ap (λ (bs : List BranchValue). take 1 (drop (length s.tree) bs)) hangs.tree
    ∙ ap (λ (bs : List BranchValue). take 1 bs) (drop_past s.tree (hangs.branch ∷ [])) in
    let more = subst (λ (bs : List BranchValue). AddsOuterSlacks bs old new) newest on in
    subst (λ (bs : List BranchValue). AreOuterSlacks t r.heights r.root bs new) (sym hangs.tree)
    (more t r.heights r.root s.tree
    (λ x. subst (λ (bs : List BranchValue). count x (outer_members r.root.members bs) ≤ 1) hangs.tree (can.once x))
    (each-right firm s.tree (hangs.branch ∷ []) (subst (λ (bs : List BranchValue). Each firm bs) hangs.tree can.firm))
    (subst (λ (v : OddSetValue). AreOuterSlacks t r.heights v s.tree old) (sym hangs.root)
    (subst (λ (hs : List ℕ). AreOuterSlacks t hs s.root s.tree old) (sym adv.heights) reaches)))

-- the outer parts of a set that has come apart are taken in
pub apart_more : (t : TableValue) (s r : SearchValue) (st : SearchStep) (at more : ℕ) (old new : List ℕ) → st ≡ Expand at → CanStepAt t s st
    → Advances s (Expand at) r → ExpandsBranch at s r → more + length s.tree ≡ length r.tree → AreSearchSlacks t s old
    → AddsOuterSlacks (take more (drop at r.tree)) old new → AreSearchSlacks t r new
apart_more t s r st at more old new e k adv apart size reaches on =
    reaches_apart t r.heights r.root at more s.tree r.tree old new apart.grows size
    (can_take_at t s r st (Expand at) e k adv)
    (subst (λ (v : OddSetValue). AreOuterSlacks t r.heights v s.tree old) (sym apart.root)
    (subst (λ (hs : List ℕ). AreOuterSlacks t hs s.root s.tree old) (sym adv.heights) reaches)) on

-- the step can be taken
pub steps_at : (t : TableValue) (s : SearchValue) (st now : SearchStep) → st ≡ now → CanStepAt t s st → CanStep s now
steps_at t s st now e k = record { t = t; can = subst (λ (k : SearchStep). CanStepAt t s k) e k }
