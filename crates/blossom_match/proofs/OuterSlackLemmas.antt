-- The least slack from the outer vertices to each vertex.
use Rattle.std.proofs.Common.{◌≡◌, ◌≢◌, ℕ, ◌+◌, ◌-◌, ◌≤◌, ◌<◌, inl, inr, suc, zero, List, [], ◌∷◌, ◌++◌, length, take, drop, get_or, arith, refl, sym, ap, subst, ◌∙◌, length-append, append_assoc}
use Rattle.blossom_match.proofs.Names.{nat_tests, take-append-drop, drop-append_seam, Each, OddSetValue, count, lowered_slack, IsSoundBranch, IsSoundSet, outer_with_both, one_if_both, outer_members, count_holding_both, slack_from, HasSoundOuters, HasSlacks, IsSlackFromOne, HasSlackCells, AreOuterSlacks, AddsOuterSlacks, LowersBySet, ReachesEither, TableValue, FAR, BranchValue, SearchValue, take_here, each-left, each-right, count-append, members-append, members_push, outer_places, not_hit, lowered_far, around_append, base_in, around_first, by_count, by_either, cases_lt, take-append_seam, InsertsBranches, MergesSlacks, each_here, at_drop, near_least, near_is}
use Rattle.blossom_match.proofs.ScanLemmas.{split_here}

-- a merged row takes the set in
pub takes_near : (t : TableValue) (hs : List ℕ) (s : OddSetValue) (old new : List ℕ) → IsSoundSet t (λ (a : ℕ). get_or hs a 0) s
    → ((x : ℕ) → count x s.members ≤ 1) → length new ≡ length old → ((x : ℕ) → x < t.places → get_or old x 0 ≤ FAR)
    → MergesSlacks s.near s.dual old new → LowersBySet t hs s.members old new
takes_near t hs s old new k once size short merged =
    let h = λ (a : ℕ). get_or hs a 0 in
    let at = λ (x : ℕ) (lx : x < t.places). merged x (omega (arith, lx, k.near.0.size)) in
    record {
      size = size;
      kept = λ x lx here.
          omega (arith, at x lx, lowered_far s.dual (get_or s.near x 0) (k.near.0.own x here lx), short x lx);
      less = λ x lx. omega (arith, at x lx);
      least = λ a x ha lx none. omega (arith, at x lx, near_least t h s a x k (omega (arith, ha, once a)) none lx);
      is = λ x lx none.
          let k = near_is t h s x k once none lx in
          by_either (λ less. inr (record { a = k.a; here = k.here; exact = omega (arith, at x lx, less, k.exact) }))
          (λ more. inl (omega (arith, at x lx, more))) (cases_lt (lowered_slack s.dual (get_or s.near x 0)) (get_or old x 0));
    }

-- the vertex with that slack is one of those after
pub left_more : (t : TableValue) (hs xs : List ℕ) (i x left : ℕ) → i < length xs → slack_from t hs (get_or xs i 0) x ≢ left
    → IsSlackFromOne t hs (drop i xs) x left → IsSlackFromOne t hs (drop (i + 1) xs) x left
left_more t hs xs i x left h1 h2 h3 = grind (arith, nat_tests, not_hit, at_drop)

-- the root alone
root_reached : (t : TableValue) (hs : List ℕ) (root : OddSetValue) (reach new : List ℕ) → length reach ≡ t.places
    → ((x : ℕ) → x < length reach → get_or reach x 0 ≡ FAR) → LowersBySet t hs root.members reach new → AreOuterSlacks t hs root [] new
root_reached t hs root reach new h1 h2 h3 = grind (arith, nat_tests, by_count, by_either)

-- where cells are lower, either still reaches the other
pub lowered_either : (t : TableValue) (hs reach new : List ℕ) (a b : ℕ) → get_or new a 0 ≤ get_or reach a 0
    → get_or new b 0 ≤ get_or reach b 0 → ReachesEither t hs reach a b → ReachesEither t hs new a b
lowered_either t hs reach new a b less_a less_b (inl low) = inl (omega (arith, less_b, low))
lowered_either t hs reach new a b less_a less_b (inr low) = inr (omega (arith, less_a, low))

set_both : (n m : ℕ) (t : TableValue) (hs : List ℕ) (root : OddSetValue) (bs : List BranchValue) (b : BranchValue) (reach new : List ℕ)
    (a c : ℕ) → count a b.outer.members ≡ n → count c b.outer.members ≡ m → 1 ≤ count a (outer_members root.members bs) + n
    → 1 ≤ count c (outer_members root.members bs) + m → a < t.places → c < t.places
    → count_holding_both a c root bs + one_if_both a c b.outer ≡ 0 → AreOuterSlacks t hs root bs reach
    → LowersBySet t hs b.outer.members reach new → ReachesEither t hs new a c
set_both zero zero t hs root bs b reach new a c e f ha hc la lc apart r k =
    lowered_either t hs reach new a c (k.less a la) (k.less c lc)
    (r.both a c (omega (arith, ha)) (omega (arith, hc)) la lc (omega (arith, apart)))
set_both (suc n) zero t hs root bs b reach new a c e f ha hc la lc apart r k = inl (k.least a c (omega (arith, e)) lc f)
set_both zero (suc m) t hs root bs b reach new a c e f ha hc la lc apart r k = inr (k.least c a (omega (arith, f)) la e)
set_both (suc n) (suc m) t hs root bs b reach new a c e f ha hc la lc apart r k = absurd (omega (arith, e, f, apart))

-- one outer set more
set_reached : (t : TableValue) (hs : List ℕ) (root : OddSetValue) (bs : List BranchValue) (b : BranchValue) (reach new : List ℕ)
    → ((y : ℕ) → count y (outer_members root.members bs) + count y b.outer.members ≤ 1)
    → AreOuterSlacks t hs root bs reach → LowersBySet t hs b.outer.members reach new → AreOuterSlacks t hs root (bs ++ b ∷ []) new
set_reached t hs root bs b reach new once r k = record {
  size = k.size ∙ r.size;
  short = λ x lx. omega (arith, k.less x lx, r.short x lx);
  least = λ a x ha lx none. by_count (count a b.outer.members)
      (λ e. omega (arith, k.less x lx, r.least a x (omega (arith, ha, members_push, e)) lx (omega (arith, none, members_push, e))))
      (λ e. k.least a x e lx (omega (arith, none, members_push, e)));
  both = λ a c ha hc la lc apart. set_both (count a b.outer.members) (count c b.outer.members) t hs root bs b reach new a c refl refl
      (omega (arith, ha, members_push)) (omega (arith, hc, members_push)) la lc (omega (arith, apart, around_append)) r k;
  is = λ x lx. by_count (count x b.outer.members)
      (λ e. by_either
      (λ same. grind (arith, nat_tests, members_push, around_append, (r.is x lx)))
      (λ l. let out : count l.a (outer_members root.members bs) ≡ 0 = omega (arith, once l.a, l.here) in
      inr (record {
        a = l.a;
        here = omega (arith, l.here, members_push);
        apart = omega (arith, around_append, around_first l.a x root.members bs out, base_in l.a root.members bs, out, e);
        exact = l.exact;
      }))
      (k.is x lx e))
      (λ e. grind (arith, nat_tests, members_push, around_append, (k.kept x lx e), (r.is x lx)));
}

-- the row of the next branch has a cell for each place
pub fits_row : (tree : List BranchValue) (i : ℕ) (b : BranchValue) (first cells : List ℕ)
    → Each (λ (k : BranchValue). HasSlacks (length first) k.outer) tree → i < length tree → b ≡ get_or tree i b
    → length cells ≡ length first → HasSlacks (length cells) b.outer
fits_row tree i b first cells h1 h2 h3 h4 = grind (arith, nat_tests, each_here)

-- the branches so far and the next one, beside others
pub reaches_next : (t : TableValue) (hs : List ℕ) (root : OddSetValue) (before tree : List BranchValue) (i : ℕ) (b : BranchValue)
    (reach new : List ℕ)
    → ((x : ℕ) → count x (outer_members root.members (before ++ tree)) ≤ 1) → Each (IsSoundBranch t (λ (a : ℕ). get_or hs a 0)) tree
    → i < length tree → b ≡ get_or tree i b → AreOuterSlacks t hs root (before ++ take i tree) reach → length new ≡ length reach
    → MergesSlacks b.outer.near b.outer.dual reach new → AreOuterSlacks t hs root (before ++ take (i + 1) tree) new
reaches_next t hs root before tree i b reach new once firm low is r size merged =
    let base = root.members in
    let few : (y : ℕ) → count y (outer_members base (before ++ take i tree)) + count y b.outer.members ≤ 1 = λ y. omega (
      arith,
      once y,
      members-append,
      ap (λ (ks : List BranchValue). count y (outer_members [] ks)) (split_here tree i b low is),
      count-append,
    ) in
    let is_next : (before ++ take i tree) ++ b ∷ [] ≡ before ++ take (i + 1) tree =
    append_assoc before (take i tree) (b ∷ []) ∙ ap (λ (ks : List BranchValue). before ++ ks) (sym (take_here tree i b low is)) in
    subst (λ (ks : List BranchValue). AreOuterSlacks t hs root ks new) is_next
    (set_reached t hs root (before ++ take i tree) b reach new few r
    (takes_near t hs b.outer reach new (each_here (IsSoundBranch t (λ (a : ℕ). get_or hs a 0)) tree i b firm low is).outer
    (λ y. omega (arith, few y)) size r.short merged))

-- the order of the outer sets is nothing to what they leave
reaches_same : (t : TableValue) (hs : List ℕ) (root : OddSetValue) (xs ys : List BranchValue) (reach : List ℕ)
    → ((y : ℕ) → count y (outer_members root.members ys) ≡ count y (outer_members root.members xs))
    → ((a x : ℕ) → outer_with_both a x ys ≡ outer_with_both a x xs) → AreOuterSlacks t hs root xs reach → AreOuterSlacks t hs root ys reach
reaches_same t hs root xs ys reach h1 h2 h3 = grind (arith, nat_tests, by_either)

drop_before : (xs ys : List BranchValue) (n : ℕ) → length xs ≡ n → drop n (xs ++ ys) ≡ ys
drop_before xs ys n e = subst (λ (k : ℕ). drop k (xs ++ ys) ≡ ys) e (drop-append_seam xs ys)

take_before : (xs ys : List BranchValue) (n : ℕ) → n ≡ length xs → take n (xs ++ ys) ≡ xs
take_before xs ys n e = subst (λ (k : ℕ). take k (xs ++ ys) ≡ xs) (sym e) (take-append_seam xs ys)

-- the branches that come out of a set are those from the index on
added_is : (at more : ℕ) (old new : List BranchValue) → (g : InsertsBranches at old new) → more + length old ≡ length new
    → take more (drop at new) ≡ g.added
added_is at more old new g h1 = grind (arith, nat_tests, drop_before, length-append, take_before)

pub grown_size : (at : ℕ) (old new : List BranchValue) → InsertsBranches at old new → length old ≤ length new
grown_size at old new h1 = grind (arith, nat_tests, length-append)

-- the inserted branches begin at the index
pub grown_past : (at : ℕ) (old new : List BranchValue) → InsertsBranches at old new → at + (length new - length old) ≤ length new
grown_past at old new h1 = grind (arith, nat_tests, length-append)

-- once an inner set has come apart and its outer parts are taken in
pub reaches_apart : (t : TableValue) (hs : List ℕ) (root : OddSetValue) (at more : ℕ) (old new : List BranchValue) (reach next : List ℕ)
    → (g : InsertsBranches at old new) → more + length old ≡ length new → HasSoundOuters t hs root new → AreOuterSlacks t hs root old reach
    → AddsOuterSlacks (take more (drop at new)) reach next → AreOuterSlacks t hs root new next
reaches_apart t hs root at more old new reach next g size can r on =
    let base = root.members in
    let on = subst (λ (ks : List BranchValue). AddsOuterSlacks ks reach next) (added_is at more old new g size) on in
    let outs : (y : ℕ) → count y (outer_members base new) ≡ count y (outer_members base (old ++ g.added)) =
    λ y. grind (arith, nat_tests, members-append, count-append) in
    let holds : (a x : ℕ) → outer_with_both a x new ≡ outer_with_both a x (old ++ g.added) =
    λ a x. grind (arith, nat_tests, around_append) in
    let firm = subst (λ (ks : List BranchValue). Each (IsSoundBranch t (λ (a : ℕ). get_or hs a 0)) ks) g.now can.firm in
    reaches_same t hs root (old ++ g.added) new next outs holds
    (on t hs root old (λ y. omega (arith, outs y, can.once y))
    (each-left (IsSoundBranch t (λ (a : ℕ). get_or hs a 0)) g.added (g.last ∷ g.later)
    (each-right (IsSoundBranch t (λ (a : ℕ). get_or hs a 0)) g.before (g.added ++ g.last ∷ g.later) firm)) r)

-- the root alone, once its row is merged
pub reaches_root : (t : TableValue) (hs : List ℕ) (root : OddSetValue) (reach new : List ℕ) → HasSoundOuters t hs root []
    → length reach ≡ t.places → length new ≡ length reach → ((x : ℕ) → x < length reach → get_or reach x 0 ≡ FAR)
    → MergesSlacks root.near root.dual reach new → AreOuterSlacks t hs root [] new
reaches_root t hs root reach new can size same far merged =
    root_reached t hs root reach new size far
    (takes_near t hs root reach new can.sound (λ y. omega (arith, can.once y)) same
    (λ x lx. omega (arith, far x (omega (arith, lx, size)))) merged)

-- the rows of a search have a cell for each place
pub has_root_row : (s : SearchValue) (cells : List ℕ) → HasSlackCells s cells → HasSlacks (length cells) s.root
has_root_row s cells r = r.can.sound.near.0.size ∙ sym r.size

-- the places of an outer set are outer places
pub outer_within : (x : ℕ) (base : List ℕ) (tree : List BranchValue) (i : ℕ) (b : BranchValue) → i < length tree → b ≡ get_or tree i b
    → count x b.outer.members ≤ count x (outer_members base tree)
outer_within x base tree i b low is =
    omega (
      arith,
      members-append,
      ap (λ (ks : List BranchValue). count x (outer_members base ks))
          (take-append-drop i tree),
      outer_places x tree i b low is,
    )
