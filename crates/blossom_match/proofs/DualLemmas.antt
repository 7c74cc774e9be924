-- A change of duals preserves the invariants of a search.
use Rattle.std.proofs.Common.{◌≡◌, ℕ, ◌+◌, ◌-◌, ◌*◌, ◌^◌, ◌≤◌, ◌<◌, suc, zero, List, [], ◌∷◌, ◌++◌, flat_map, length, map, take, drop, get_or, set, set-set, get_or-set_same, arith, refl, sym, ap, ◌∙◌, append_assoc}
use Rattle.std.proofs.lemmas.List.Edits.{map_over_more}
use Rattle.blossom_match.proofs.Names.{nat_tests, Each, OddSetValue, apart, dual_sets, count, height, dual_load, key_count, with_dual, match_members, IsMatch, IsSoundBranch, IsSoundMatch, IsSoundSet, all_dual_sets, outer_with_both, one_if_both, branch_dual_sets, inner_members, inner_sets, outer_members, outer_sets, IsAlternatingTree, outer_vertices, IsSearch, IsLeastChange, all_changed, changed_by, changed_branch, CanChange, CanChangeBranch, TableValue, IsTable, MAX_DISTANCE, BranchValue, MatchValue, SearchValue, branch_in, branches_in, AreSets, Slots, Branch, DualChange, mapped_drop, no_branch, all_uses, sets_fewer, key_count-append, count-append, height-append, hit_is, dual_load-append, size-append, some_member, base_in, more_by, sum_over, members_onto, inner_dual_sets, get_or_self, outer_members_base}
use Rattle.blossom_match.proofs.SearchLemmas.{place_in}

-- members stay
pub outer_same : (by : ℕ) (base : List ℕ) (bs : List BranchValue) → outer_members base (all_changed by bs) ≡ outer_members base bs
outer_same by base [] = refl
outer_same by base (b ∷ bs) = ap (λ (xs : List ℕ). b.outer.members ++ xs) (outer_same by base bs)

pub inner_same : (by : ℕ) (bs : List BranchValue) → inner_members (all_changed by bs) ≡ inner_members bs
inner_same by [] = refl
inner_same by (b ∷ bs) = ap (λ (xs : List ℕ). b.inner.members ++ xs) (inner_same by bs)

pub around_same_all : (by a c : ℕ) (bs : List BranchValue) → outer_with_both a c (all_changed by bs) ≡ outer_with_both a c bs
around_same_all by a c [] = refl
around_same_all by a c (b ∷ bs) = omega (arith, around_same_all by a c bs)

pub grown_same : (by : ℕ) (base : List ℕ) (bs : List BranchValue) → IsAlternatingTree base bs → IsAlternatingTree base (all_changed by bs)
grown_same by base [] g = tt
grown_same by base (b ∷ bs) g = (g.0, g.1, g.2, g.3, grown_same by (b.outer.members ++ base) bs g.4)

pub sizes_same : (by : ℕ) (bs : List BranchValue) → length (inner_dual_sets (all_changed by bs)) ≡ length (inner_dual_sets bs)
sizes_same by [] = refl
sizes_same by (b ∷ bs) = omega (
  arith,
  sizes_same by bs,
  size-append (dual_sets b.inner) (inner_dual_sets bs),
  size-append
      (dual_sets (with_dual (b.inner.dual - by) b.inner)) (inner_dual_sets (all_changed by bs)),
)

pub drop_changed : (by at : ℕ) (bs : List BranchValue) → drop at (all_changed by bs) ≡ all_changed by (drop at bs)
drop_changed by at bs = mapped_drop (changed_by by) at bs

narrowed : (w by c : ℕ) → by ≤ w → (w - by) * c + by * c ≡ w * c
narrowed w by c low =
    let e : (w - by) + by ≡ w = omega arith in
    let f : ((w - by) + by) * c ≡ w * c = ap (λ (k : ℕ). k * c) e in
    omega (arith, f)

pub wide_tall : (x by : ℕ) (s : OddSetValue) → height x (dual_sets (with_dual (s.dual + by) s))
    ≡ height x (dual_sets s) + by * count x s.members
wide_tall x by s = omega arith

narrow_tall : (x by : ℕ) (s : OddSetValue) → by ≤ s.dual → height x (dual_sets (with_dual (s.dual - by) s)) + by * count x s.members
    ≡ height x (dual_sets s)
narrow_tall x by s low = omega (arith, narrowed s.dual by (count x s.members) low)

-- heights rise by the change in outer sets and fall by it in inner sets
pub branches_tall : (x by : ℕ) (bs : List BranchValue) → Each (CanChange by) bs →
    height x (branch_dual_sets (all_changed by bs)) + by * count x (inner_members bs)
    ≡ height x (branch_dual_sets bs) + by * count x (outer_members [] bs)
branches_tall x by [] can = omega arith
branches_tall x by (b ∷ bs) can =
    grind (arith, nat_tests, narrow_tall, wide_tall, more_by, count-append, height-append, branches_tall x by bs can.1)

-- a set of the outer sets, of the inner sets and of the others
pub sound_up : (d : TableValue) (h k : ℕ → ℕ) (by : ℕ) (s : OddSetValue) → ((x : ℕ) → count x s.members ≤ 1)
    → ((x : ℕ) → 1 ≤ count x s.members → k x ≡ h x + by) → IsSoundSet d h s → IsSoundSet d k (with_dual (s.dual + by) s)
sound_up d h k by s once up i = record {
  kept = record { odd = i.kept.odd; covered = i.kept.covered; single = i.kept.single };
  paid = i.paid;
  near = i.near;
  local = λ x here.
      let one : count x s.members ≡ 1 = omega (arith, here, once x) in
      omega (arith, wide_tall x by s, ap (λ (n : ℕ). by * n) one, i.local x here, up x here);
  even = λ x y hx hy. omega (arith, i.even x y hx hy, up x hx, up y hy);
}

sound_down : (d : TableValue) (h k : ℕ → ℕ) (by : ℕ) (s : OddSetValue) → by ≤ s.dual → ((x : ℕ) → count x s.members ≤ 1)
    → ((x : ℕ) → 1 ≤ count x s.members → k x + by ≡ h x) → IsSoundSet d h s → IsSoundSet d k (with_dual (s.dual - by) s)
sound_down d h k by s low once down i = record {
  kept = record { odd = i.kept.odd; covered = i.kept.covered; single = i.kept.single };
  paid = i.paid;
  near = i.near;
  local = λ x here.
      let one : count x s.members ≡ 1 = omega (arith, here, once x) in
      omega (arith, narrow_tall x by s low, ap (λ (n : ℕ). by * n) one, i.local x here, down x here);
  even = λ x y hx hy. omega (arith, i.even x y hx hy, down x hx, down y hy);
}

sound_same : (d : TableValue) (h k : ℕ → ℕ) (s : OddSetValue) → ((x : ℕ) → 1 ≤ count x s.members → k x ≡ h x) → IsSoundSet d h s
    → IsSoundSet d k s
sound_same d h k s same i = record {
  kept = i.kept;
  paid = i.paid;
  near = i.near;
  local = λ x here. omega (arith, i.local x here, same x here);
  even = λ x y hx hy. omega (arith, i.even x y hx hy, same x hx, same y hy);
}

pub firm_changed : (d : TableValue) (h k : ℕ → ℕ) (by : ℕ) (base : List ℕ) (bs : List BranchValue) → IsAlternatingTree base bs
    → Each (CanChange by) bs → Each (IsSoundBranch d h) bs → ((x : ℕ) → count x (outer_members base bs) + count x (inner_members bs) ≤ 1)
    → ((x : ℕ) → 1 ≤ count x (outer_members base bs) → k x ≡ h x + by) → ((x : ℕ) → 1 ≤ count x (inner_members bs) → k x + by ≡ h x)
    → Each (IsSoundBranch d k) (all_changed by bs)
firm_changed d h k by base [] g can f once up down = tt
firm_changed d h k by base (b ∷ bs) g can f once up down =
    let more = λ (x : ℕ). outer_members_base x b.outer.members base bs in
    let in_inner = λ (x : ℕ) (here : 1 ≤ count x b.inner.members). down x (omega (arith, count-append, here)) in
    let in_outer = λ (x : ℕ) (here : 1 ≤ count x b.outer.members). up x (omega (arith, count-append, here)) in (
      record {
        up = omega (
          arith,
          f.0.up,
          up b.up.from (omega (arith, g.0, base_in b.up.from base bs, count-append)),
          in_inner b.up.to
              (omega (arith, g.1)),
        );
        pair = omega (arith, f.0.pair, in_inner b.pair.from (omega (arith, g.2)), in_outer b.pair.to (omega (arith, g.3)));
        inner = sound_down d h k by b.inner can.0.wide (λ x. omega (arith, once x, count-append)) in_inner f.0.inner;
        outer = sound_up d h k by b.outer (λ x. omega (arith, once x, count-append)) in_outer f.0.outer;
      },
      firm_changed d h k by (b.outer.members ++ base) bs g.4 can.1 f.1 (λ x. omega (arith, once x, count-append, more x))
          (λ x here. up x (omega (arith, here, more x, count-append))) (λ x here. down x (omega (arith, here, count-append))),
    )

pub matches_same : (d : TableValue) (h k : ℕ → ℕ) (cs : List MatchValue) → Each IsMatch cs → Each (IsSoundMatch d h) cs
    → ((x : ℕ) → 1 ≤ count x (match_members cs) → k x ≡ h x) → Each (IsSoundMatch d k) cs
matches_same d h k [] j f same = tt
matches_same d h k (c ∷ cs) j f same =
    let first = λ (x : ℕ) (here : 1 ≤ count x c.first.members). same x (omega (arith, here, count-append)) in
    let second = λ (x : ℕ) (here : 1 ≤ count x c.second.members). same x (omega (arith, here, count-append)) in (
      record {
        link = omega (arith, f.0.link, first c.link.from (omega (arith, j.0.from)), second c.link.to (omega (arith, j.0.to)));
        first = sound_same d h k c.first first f.0.first;
        second = sound_same d h k c.second second f.0.second;
      },
      matches_same d h k cs j.1 f.1 (λ x here. same x (omega (arith, here, count-append))),
    )

-- 1 where the set holds exactly one of the places
abbrev one_of : ℕ → ℕ → OddSetValue → ℕ
one_of a b s = apart (count a s.members) (count b s.members)

-- how many sets of the branches hold exactly one of the places, and how many inner sets hold both
abbrev pub between_out : ℕ → ℕ → List BranchValue → ℕ
between_out a b bs = sum_over (one_of a b) (flat_map outer_sets bs)

abbrev pub between_in : ℕ → ℕ → List BranchValue → ℕ
between_in a b bs = sum_over (one_of a b) (flat_map inner_sets bs)

abbrev pub inside : ℕ → ℕ → List BranchValue → ℕ
inside a b bs = sum_over (one_if_both a b) (flat_map inner_sets bs)

pub counted : (a b : ℕ) (ss : List OddSetValue) → sum_over (one_of a b) ss + 2 * sum_over (one_if_both a b) ss
    ≡ count a (members_onto [] ss) + count b (members_onto [] ss)
counted a b [] = refl
counted a b (s ∷ ss) = omega (arith, counted a b ss, count-append)

pub more_wide : (w by k rest new old : ℕ) → new ≡ (w + by) * k + rest → old ≡ w * k + rest → new ≡ old + by * k
more_wide w by k rest new old e f = omega arith

less_wide : (w by k rest new old : ℕ) → by ≤ w → new ≡ (w - by) * k + rest → old ≡ w * k + rest → new + by * k ≡ old
less_wide w by k rest new old low e f = omega (arith, narrowed w by k low)

sum_up : (by n w r i o q ci co bi bo new old : ℕ) → new ≡ n + (w + r) → old ≡ i + (o + q) → n + by * ci ≡ i → w ≡ o + by * co
    → r + by * bi ≡ q + by * bo → new + by * (ci + bi) ≡ old + by * (co + bo)
sum_up by n w r i o q ci co bi bo new old e f g k m = omega arith

pub branches_load : (a b by : ℕ) (bs : List BranchValue) → Each (CanChange by) bs →
    dual_load a b (branch_dual_sets (all_changed by bs)) + by * between_in a b bs
    ≡ dual_load a b (branch_dual_sets bs) + by * between_out a b bs
branches_load a b by [] can = omega arith
branches_load a b by (c ∷ cs) can =
    let n = with_dual (c.inner.dual - by) c.inner in
    let w = with_dual (c.outer.dual + by) c.outer in
    let ci = apart (count a c.inner.members) (count b c.inner.members) in
    let co = apart (count a c.outer.members) (count b c.outer.members) in
    sum_up by (dual_load a b (dual_sets n)) (dual_load a b (dual_sets w)) (dual_load a b (branch_dual_sets (all_changed by cs)))
    (dual_load a b (dual_sets c.inner))
    (dual_load a b (dual_sets c.outer)) (dual_load a b (branch_dual_sets cs)) ci co (between_in a b cs) (between_out a b cs) _ _
    (dual_load-append a b (dual_sets n) (dual_sets w ++ branch_dual_sets (all_changed by cs))
    ∙ ap (λ (x : ℕ). dual_load a b (dual_sets n) + x) (dual_load-append a b (dual_sets w) (branch_dual_sets (all_changed by cs))))
    (dual_load-append a b (dual_sets c.inner) (dual_sets c.outer ++ branch_dual_sets cs)
    ∙ ap (λ (x : ℕ). dual_load a b (dual_sets c.inner) + x) (dual_load-append a b (dual_sets c.outer) (branch_dual_sets cs)))
    (less_wide c.inner.dual by ci (dual_load a b c.inner.below) (dual_load a b (dual_sets n)) (dual_load a b (dual_sets c.inner)) can.0.wide
    refl refl)
    (more_wide c.outer.dual by co (dual_load a b c.outer.below) (dual_load a b (dual_sets w)) (dual_load a b (dual_sets c.outer)) refl refl)
    (branches_load a b by cs can.1)

-- bo, bi: how many outer and inner sets hold exactly one of a and b; oo, ii: how many hold both; oa, ob, ia, ib: how many hold a and b
pub within : (top old new by bo bi oo ii oa ob ia ib : ℕ) → new + by * bi ≡ old + by * bo → bo + 2 * oo ≡ oa + ob → bi + 2 * ii ≡ ia + ib →
    oa + ia ≤ 1 → ob + ib ≤ 1 → old ≤ top → (1 ≤ oa + ob → ia + ib ≡ 0 → oo ≡ 0 → old + by ≤ top)
    → (2 ≤ oa + ob → oo ≡ 0 → old + 2 * by ≤ top) → new ≤ top
within top old new by zero bi oo ii oa ob ia ib e f g p q base one two = omega arith
within top old new by (suc zero) zero oo ii oa ob ia ib e f g p q base one two =
    grind (arith, nat_tests)
within top old new by (suc zero) (suc bi) oo ii oa ob ia ib e f g p q base one two = omega arith
within top old new by (suc (suc zero)) zero oo ii oa ob ia ib e f g p q base one two =
    grind (arith, nat_tests)
within top old new by (suc (suc zero)) (suc bi) oo ii oa ob ia ib e f g p q base one two = absurd (omega arith)
within top old new by (suc (suc (suc bo))) bi oo ii oa ob ia ib e f g p q base one two = absurd (omega arith)

pub outer_with_both-comm : (a b : ℕ) (bs : List BranchValue) → outer_with_both a b bs ≡ outer_with_both b a bs
outer_with_both-comm a b [] = refl
outer_with_both-comm a b (c ∷ cs) = omega (arith, outer_with_both-comm a b cs)

-- an item after those before it
pub each_split : {X : Type 0} (P : X → Type 0) (all rest before : List X) → all ≡ before ++ rest
    → ((bs : List X) (b : X) (after : List X) → all ≡ bs ++ b ∷ after → P b) → Each P rest
each_split P all [] before e f = tt
each_split P all (b ∷ bs) before e f = (
  f before b bs e,
  each_split P all bs (before ++ b ∷ [])
      (e ∙ sym (append_assoc before (b ∷ []) bs)) f,
)

-- the height of a place of an outer set can rise, and so can the set's dual
pub outer_limit : (t : TableValue) (h : ℕ → ℕ) (s : SearchValue) (c : DualChange) (x f : ℕ) → IsTable t → IsSearch t h s
    → IsLeastChange t h s c → 1 ≤ count f s.free → 1 ≤ count x (outer_vertices s) → h x + c.by ≤ 2 * MAX_DISTANCE
outer_limit t h s c x f is i b hf hx =
    omega (
      arith,
      b.one x f hx (omega (arith, hf)),
      is.short x f (place_in t x (omega (arith, i.places x, hx)))
          (place_in t f (omega (arith, i.places f, hf))),
    )

pub set_limit : (d : TableValue) (h : ℕ → ℕ) (n : OddSetValue) (by : ℕ) → IsSoundSet d h n → ((x : ℕ) → count x n.members ≤ 1)
    → ((x : ℕ) → 1 ≤ count x n.members → h x + by ≤ 2 * MAX_DISTANCE) → n.dual + by < 2 ^ 32
set_limit d h n by h1 h2 h3 = grind (arith, nat_tests, some_member)

pub one_place : (x y : ℕ) (ms : List ℕ) → length ms ≡ 1 → 1 ≤ count x ms → 1 ≤ count y ms → x ≡ y
one_place x y [] one hx hy = absurd (omega arith)
one_place x y (m ∷ []) one hx hy = hit_is x m (omega (arith, hx)) ∙ sym (hit_is y m (omega (arith, hy)))
one_place x y (m ∷ n ∷ ms) one hx hy = absurd (omega arith)

-- the handles of a branch are written one after the other
abbrev inner_resized : ℕ → Branch → Branch
inner_resized by b = record { up = b.up; inner = record { key = b.inner.key; dual = b.inner.dual - by }; pair = b.pair; outer = b.outer }

abbrev outer_resized : ℕ → Branch → Branch
outer_resized by b = record { up = b.up; inner = b.inner; pair = b.pair; outer = record { key = b.outer.key; dual = b.outer.dual + by } }

pub resized_more : (by : ℕ) (xs ys : List Branch) (i : ℕ) → i < length xs → length ys ≡ length xs
    → ys ≡ map (changed_branch by) (take i xs) ++ drop i xs
    → set (set ys i (inner_resized by (get_or ys i no_branch))) i
    (outer_resized by (get_or (set ys i (inner_resized by (get_or ys i no_branch))) i no_branch))
    ≡ map (changed_branch by) (take (i + 1) xs) ++ drop (i + 1) xs
resized_more by xs ys i low size e =
    let x = get_or ys i no_branch in
    let a = inner_resized by x in
    ap (λ (b : Branch). set (set ys i a) i (outer_resized by b)) (get_or-set_same ys i a no_branch (omega (arith, low, size)))
    ∙ set-set ys i a (outer_resized by a) ∙ map_over_more (changed_branch by) xs ys i x low e (get_or_self ys i no_branch)

pub can_resize : (by : ℕ) (sets : Slots) (bs : List Branch) → Each (CanChange by) (branches_in sets bs) → Each (CanChangeBranch by) bs
can_resize by sets [] can = tt
can_resize by sets (b ∷ bs) can = (record { fits = can.0.fits; wide = can.0.wide }, can_resize by sets bs can.1)

pub all_resized : (by : ℕ) (sets : Slots) (bs : List Branch) → branches_in sets (map (changed_branch by) bs) ≡ all_changed by
    (branches_in sets bs)
all_resized by sets [] = refl
all_resized by sets (b ∷ bs) =
    ap (λ (ks : List BranchValue). changed_by by (branch_in sets b) ∷ ks) (all_resized by sets bs)

-- the same sets under the same keys
uses_same : (k by : ℕ) (bs : List BranchValue) → key_count k (branch_dual_sets (all_changed by bs)) ≡ key_count k (branch_dual_sets bs)
uses_same k by [] = refl
uses_same k by (b ∷ bs) =
    omega (
      arith,
      uses_same k by bs,
      key_count-append k b.inner.below (dual_sets b.outer ++ branch_dual_sets bs),
      key_count-append k b.inner.below (dual_sets (changed_by by b).outer ++ branch_dual_sets (all_changed by bs)),
      key_count-append k b.outer.below (branch_dual_sets bs),
      key_count-append k b.outer.below (branch_dual_sets (all_changed by bs)),
    )

pub changed_sets : (sets : Slots) (by w : ℕ) (root : OddSetValue) (tree now : List BranchValue) (rest : List MatchValue)
    → now ≡ all_changed by tree → AreSets sets (all_dual_sets root tree rest) → AreSets sets (all_dual_sets (with_dual w root) now rest)
changed_sets sets by w root tree now rest h1 h2 = grind (arith, nat_tests, sets_fewer, all_uses, uses_same)
