-- The blossom that the loop closes.
use Rattle.std.proofs.Common.{◌≡◌, ℕ, ◌+◌, ◌%◌, ◌≤◌, List, [], ◌∷◌, ◌++◌, length, reverse, arith, refl, sym, ap, subst, ◌∙◌, ◌<◌}
use Rattle.odd_sets.proofs.Names.{nat_tests, append-nil, TableValue, Each, IsAdditive, DualSet, OddSetValue, IsOddSet, dual_sets, count, members_in, dual_sets_in, IsBlossom, IsSoundBranch, IsSoundSet, IsSoundPart, one_if_both, outer_members, inner_members, outer_sets, IsAlternatingTree, part_with_edge, closed_blossom, CanClose, CanShrink, Shrinks, IsOpenChain, TightEdge, BranchValue, PartValue, HaveSlacks}
use Rattle.odd_sets.proofs.ListLemmas.{each-append, each-left, each-last, each-map}
use Rattle.odd_sets.proofs.SumLemmas.{adds_none, dual_sets-append, bands_push, count-append, members-append, members_push, size-append, some_member}
use Rattle.odd_sets.proofs.ClosingLemmas.{chain_closes, blossom_sound, tree_even}
use Rattle.odd_sets.proofs.TreeLemmas.{last_of, grown_more, grown-append, base_in, around_first}
use Rattle.odd_sets.proofs.ChainLemmas.{around_append}
use Rattle.odd_sets.specs.Folds.{FoldsOuters}

-- a blossom that is the outer set of a branch
pub folded_inside : (link : TightEdge) (root : OddSetValue) (tree bs : List BranchValue) (b c : BranchValue) (chain : List PartValue)
    (aside : List BranchValue) (way : TightEdge) (to : ℕ) → IsOpenChain link root tree (bs ++ b ∷ []) chain aside way to
    → ((x : ℕ) → count x c.outer.members ≡ count x b.outer.members + count x (members_in chain))
    → FoldsOuters c.outer root root tree ((bs ++ c ∷ []) ++ reverse aside)
folded_inside link root tree bs b c chain aside way to k all = record {
  same = λ a x none. omega (arith, k.outers a x (omega (arith, none, all a)), all a, none, around_append);
  holds = λ a x. omega (arith, around_append);
  apart = λ a x here none.
      let before : count a (outer_members root.members bs) ≡ 0 =
      omega (arith, k.once a, k.places a, members_push, all a, here) in
      omega (
        arith,
        around_append,
        around_first a x root.members bs before,
        base_in a root.members bs,
        around_first a x [] (reverse aside) (omega (arith, k.once a, k.places a, members_push, all a, here)),
      );
  sound = λ t h root_sound firm.
      (each-last (IsSoundBranch t h) bs c (each-left (IsSoundBranch t h) (bs ++ c ∷ []) (reverse aside) firm)).outer;
}

-- a blossom that is the root
pub folded_root : (link : TightEdge) (root blossom : OddSetValue) (tree : List BranchValue) (chain : List PartValue)
    (aside : List BranchValue) (way : TightEdge) (to : ℕ) → IsOpenChain link root tree [] chain aside way to
    → ((x : ℕ) → count x blossom.members ≡ count x root.members + count x (members_in chain))
    → FoldsOuters blossom root blossom tree (reverse aside)
folded_root link root blossom tree chain aside way to h1 h2 = grind (arith, nat_tests, around_first)

pub blossom_from : (top : OddSetValue) (way : TightEdge) (chain : List PartValue) (to : ℕ) → CanClose top way chain to → IsOddSet top
    → IsBlossom (part_with_edge top way ∷ chain)
blossom_from top way chain to c kt = record {
  odd = omega (arith, c.even);
  three = omega (arith, c.even, c.some);
  linked = chain_closes (part_with_edge top way) chain to c.leads c.from c.back;
  kept = (kt, c.kept);
}

pub all_moved : (xs left ys : List PartValue) → length left ≡ 0 → xs ++ left ≡ ys → xs ≡ ys
all_moved xs [] ys none e = sym (append-nil xs) ∙ e
all_moved xs (p ∷ left) ys none e = absurd (omega arith)

-- an edge whose ends aren't both in the set at the top closes no empty chain
not_empty : (link : TightEdge) (s : OddSetValue) (way : TightEdge) (to : ℕ) (chain : List PartValue)
    → (length chain ≡ 0 → (way.from ≡ link.from) × (to ≡ link.to)) →
    one_if_both link.from link.to s ≡ 0 → 1 ≤ count way.from s.members → 1 ≤ count to s.members → 1 ≤ length chain
not_empty link s way to [] begun apart from back =
    grind (arith, nat_tests)
not_empty link s way to (p ∷ ps) begun apart from back = omega arith

same_size : (t : TableValue) (h : ℕ → ℕ) (n : ℕ) → n ≡ t.places → (ps : List PartValue) → Each (IsSoundPart t h) ps
    → Each (λ (p : PartValue). length p.odd_set.near ≡ n) ps
same_size t h n h1 ps h2 = grind (arith, nat_tests, each-map)

-- the rows of a set and of a firm chain
have_rows : (t : TableValue) (h : ℕ → ℕ) (top : OddSetValue) (way : TightEdge) (chain : List PartValue) → IsSoundSet t h top
    → Each (IsSoundPart t h) chain → ((x : ℕ) → 1 ≤ count x top.members + count x (members_in chain) → x < t.places)
    → HaveSlacks (length top.near) (part_with_edge top way ∷ chain)
have_rows t h top way chain h1 h2 h3 = grind (arith, nat_tests, count-append, each-map)

pub closable : (link : TightEdge) (root : OddSetValue) (tree left bs : List BranchValue) (b : BranchValue) (chain : List PartValue)
    (aside : List BranchValue) (way : TightEdge) (to : ℕ) → CanShrink link root tree → IsOpenChain link root tree left chain aside way to
    → left ≡ bs ++ b ∷ [] → 1 ≤ count way.from b.outer.members → 1 ≤ count to b.outer.members → CanClose b.outer way chain to
closable link root tree left bs b chain aside way to sh c e here there =
    let c = subst (λ (ks : List BranchValue). IsOpenChain link root tree ks chain aside way to) e c in
    let u = c.firm sh.t sh.h sh.symmetric sh.tight sh.firm in
    record {
      leads = c.leads;
      from = omega (arith, c.once way.from, c.places way.from, members_push);
      back = omega (arith, c.once to, c.places to, members_push);
      even = c.even;
      some = not_empty link b.outer way to chain c.begun (omega (arith, c.apart, around_append)) here there;
      kept = c.kept;
      rows = have_rows sh.t sh.h b.outer way chain (each-last (IsSoundBranch sh.t sh.h) bs b u.0).outer u.2
          (λ x some. sh.within x (omega (arith, some, c.places x, members_push)));
    }

pub closable_root : (link : TightEdge) (root : OddSetValue) (tree left : List BranchValue) (chain : List PartValue)
    (aside : List BranchValue) (way : TightEdge) (to : ℕ) → CanShrink link root tree → IsOpenChain link root tree left chain aside way to
    → length left ≡ 0 → CanClose root way chain to
closable_root link root tree [] chain aside way to sh c none = record {
  leads = c.leads;
  from = omega (arith, c.once way.from, c.places way.from, c.from);
  back = omega (arith, c.once to, c.places to, c.back);
  even = c.even;
  some = not_empty link root way to chain c.begun (omega (arith, c.apart)) c.from c.back;
  kept = c.kept;
  rows = have_rows sh.t sh.h root way chain sh.sound (c.firm sh.t sh.h sh.symmetric sh.tight sh.firm).2
      (λ x some. sh.within x (omega (arith, some, c.places x)));
}
closable_root link root tree (b ∷ bs) chain aside way to sh c none = absurd (omega arith)

abbrev with_outer : BranchValue → OddSetValue → BranchValue
with_outer b s = record { up = b.up; inner = b.inner; pair = b.pair; outer = s }

blossom_sums : (F : List DualSet → ℕ) → IsAdditive F
    → (key : ℕ) (top : OddSetValue) (way : TightEdge) (chain : List PartValue) (blossom : OddSetValue)
    → blossom ≡ closed_blossom key top way chain → F (dual_sets blossom) ≡ F (dual_sets top) + F (dual_sets_in chain)
    + F (record { key = blossom.key; members = blossom.members; dual = 0 } ∷ [])
blossom_sums F add key top way chain blossom e =
    subst (λ (s : OddSetValue). F (dual_sets s) ≡ F (dual_sets top) + F (dual_sets_in chain)
    + F (record { key = s.key; members = s.members; dual = 0 } ∷ [])) (sym e) (omega (
      arith,
      add (record { key = key; members = members_in (part_with_edge top way ∷ chain); dual = 0 } ∷ [])
          (dual_sets_in (part_with_edge top way ∷ chain)),
    ))

-- the heights of two places in the tree are both even or both odd
pub two_even : (d : TableValue) (h : ℕ → ℕ) (root : OddSetValue) (tree : List BranchValue) → IsAlternatingTree root.members tree
    → IsSoundSet d h root → Each (IsSoundBranch d h) tree → (x y : ℕ)
    → 1 ≤ count x (outer_members root.members tree) + count x (inner_members tree)
    → 1 ≤ count y (outer_members root.members tree) + count y (inner_members tree) → (h x + h y) % 2 ≡ 0
two_even d h root tree g s f x y hx hy =
    let r = some_member root.members (omega (arith, s.kept.odd)) in
    let at = λ (z : ℕ) (hz : 1 ≤ count z (outer_members root.members tree) + count z (inner_members tree)). tree_even d h r.0 root.members
    tree g f (λ k here. s.even r.0 k r.1 here) z hz in
    omega (arith, at x hx, at y hy)

pub closed_inside : (key : ℕ) (link : TightEdge) (root blossom : OddSetValue) (tree left bs mid new : List BranchValue)
    (b : BranchValue) (chain : List PartValue) (aside : List BranchValue) (way : TightEdge) (to : ℕ) → CanShrink link root tree
    → IsOpenChain link root tree left chain aside way to → left ≡ bs ++ b ∷ [] → CanClose b.outer way chain to → IsOddSet b.outer
    → blossom ≡ closed_blossom key b.outer way chain → mid ≡ bs ++ with_outer b blossom ∷ [] → new ≡ mid ++ reverse aside
    → Shrinks blossom link root root tree new
closed_inside key link root blossom tree left bs mid new b chain aside way to sh c e cl kb closes m n =
    let c = subst (λ (ks : List BranchValue). IsOpenChain link root tree ks chain aside way to) e c in
    let l = last_of root.members bs b c.grown in
    let q = λ (x : ℕ). count-append x b.outer.members (members_in chain) in
    let r = λ (x : ℕ). ap (λ (s : OddSetValue). count x s.members) closes ∙ q x in
    let b2 = with_outer b blossom in
    let sizes = λ (ks : List DualSet). length ks in
    let made : IsAlternatingTree root.members (bs ++ b2 ∷ []) = grown-append root.members bs (b2 ∷ []) l.grown
    (l.above, l.up_to, l.pair_from, omega (arith, l.pair_to, r b.pair.to, members_push, c.once b.pair.to, c.places b.pair.to), tt) in
    let hung : IsAlternatingTree (outer_members root.members (bs ++ b2 ∷ [])) (reverse aside) =
    grown_more (members_in chain ++ outer_members root.members (bs ++ b ∷ [])) (outer_members root.members (bs ++ b2 ∷ [])) (reverse aside)
    (λ x. omega (arith, members_push, r x, count-append)) c.hung in
    let is : new ≡ (bs ++ b2 ∷ []) ++ reverse aside = n ∙ ap (λ (ks : List BranchValue). ks ++ reverse aside) m in
    subst (λ (ks : List BranchValue). Shrinks blossom link root root tree ks) (sym is) (record {
      grown = grown-append root.members (bs ++ b2 ∷ []) (reverse aside) made hung;
      places = λ x. omega (arith, members-append, members_push, r x, c.places x);
      folds = folded_inside link root tree bs b b2 chain aside way to c r;
      sums = λ F add. omega (arith, dual_sets-append F add, c.sums F add, blossom_sums F add key b.outer way chain blossom closes);
      fewer = omega (arith, dual_sets-append sizes size-append, bands_push sizes size-append, c.fewer, cl.some);
      firm = λ d h sy w s t. let u = c.firm d h sy w t in let f = each-last (IsSoundBranch d h) bs b u.0 in
          let sound = blossom_sound d h key (part_with_edge b.outer way) chain (blossom_from b.outer way chain to cl kb)
          (λ x. omega (arith, q x, members_push, c.once x, c.places x))
          (record { next = u.3; odd_set = f.outer }, u.2)
          (λ x y hx hy. two_even d h root tree sh.grown s t x y (omega (arith, hx, q x, members_push, c.places x))
          (omega (arith, hy, q y, members_push, c.places y))) in (
            s,
            each-append (IsSoundBranch d h) (bs ++ b2 ∷ []) (reverse aside)
                (each-append (IsSoundBranch d h) bs (b2 ∷ []) (each-left (IsSoundBranch d h) bs (b ∷ []) u.0) (
                  record {
                    up = f.up;
                    pair = f.pair;
                    inner = f.inner;
                    outer = subst (λ (v : OddSetValue). IsSoundSet d h v) (sym closes)
                        sound;
                  },
                  tt,
                )) u.1,
          );
    })

at_the_root : (key : ℕ) (link : TightEdge) (root blossom : OddSetValue) (tree new : List BranchValue) (chain : List PartValue)
    (aside : List BranchValue) (way : TightEdge) (to : ℕ) → CanShrink link root tree → IsOpenChain link root tree [] chain aside way to
    → CanClose root way chain to → IsOddSet root → blossom ≡ closed_blossom key root way chain → new ≡ reverse aside
    → Shrinks blossom link root blossom tree new
at_the_root key link root blossom tree new chain aside way to sh c cl kr closes n =
    let q = λ (x : ℕ). count-append x root.members (members_in chain) in
    let r = λ (x : ℕ). ap (λ (s : OddSetValue). count x s.members) closes ∙ q x in
    subst (λ (ks : List BranchValue). Shrinks blossom link root blossom tree ks) (sym n) (record {
      grown = grown_more (members_in chain ++ root.members) blossom.members (reverse aside)
          (λ x. omega (arith, r x, count-append)) c.hung;
      places = λ x. omega (arith, members-append outer_sets x blossom.members [] (reverse aside), r x, c.places x);
      folds = folded_root link root blossom tree chain aside way to c r;
      sums = λ F add. omega (arith, c.sums F add, adds_none F add, blossom_sums F add key root way chain blossom closes);
      fewer = omega (arith, c.fewer, cl.some);
      firm = λ d h sy w s t. let u = c.firm d h sy w t in
          let sound = blossom_sound d h key (part_with_edge root way) chain (blossom_from root way chain to cl kr)
          (λ x. omega (arith, q x, c.once x, c.places x))
          (record { next = u.3; odd_set = s }, u.2)
          (λ x y hx hy. two_even d h root tree sh.grown s t x y (omega (arith, hx, q x, c.places x)) (omega (arith, hy, q y, c.places y)))
          in
          (subst (λ (v : OddSetValue). IsSoundSet d h v) (sym closes) sound, u.1);
    })

empty_left : (left rest : List BranchValue) (none : List BranchValue) → length left ≡ 0 → left ≡ rest ++ none → rest ≡ []
empty_left left [] none zero_left e = refl
empty_left left (b ∷ bs) none zero_left e = absurd (omega (arith, ap (λ (ks : List BranchValue). length ks) e))

pub closed_root : (key : ℕ) (link : TightEdge) (root blossom : OddSetValue) (tree left rest none : List BranchValue)
    (new : List BranchValue) (chain : List PartValue) (aside : List BranchValue) (way : TightEdge) (to : ℕ) (top : OddSetValue) → top ≡ root
    → CanShrink link root tree → IsOpenChain link root tree left chain aside way to → length left ≡ 0
    → blossom ≡ closed_blossom key top way chain → left ≡ rest ++ none → new ≡ rest ++ reverse aside
    → Shrinks blossom link root blossom tree new
closed_root key link root blossom tree [] rest none new chain aside way to top e sh c zero_left closes m n =
    at_the_root key link root blossom tree new chain aside way to sh c
    (closable_root link root tree [] chain aside way to sh c zero_left) sh.sound.kept
    (closes ∙ ap (λ (s : OddSetValue). closed_blossom key s way chain) e)
    (n ∙ ap (λ (ks : List BranchValue). ks ++ reverse aside) (empty_left [] rest none zero_left m))
closed_root key link root blossom tree (b ∷ bs) rest none new chain aside way to top e sh c zero_left closes m n = absurd (omega arith)
