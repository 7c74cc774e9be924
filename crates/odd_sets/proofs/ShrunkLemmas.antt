-- The slot of a blossom that closes.
use Rattle.std.proofs.Common.{◌≡◌, ℕ, ◌+◌, List, [], ◌∷◌, ◌++◌, length, reverse, arith, length-append, refl, sym, ap, subst, ◌∙◌}
use Rattle.odd_sets.proofs.Names.{nat_tests, length-map, map-append, Each, OddSetValue, IsOddSet, dual_sets, key_count, match_dual_sets, dual_sets_in, branch_of, part_with_edge, closed_blossom, IsOpenChain, CanClose, CanShrink, Shrinks, branch_in, branches_in, parts_in, set_in, AreSets, InsertsSet, Slots, IsSoundBranch, all_dual_sets, branch_dual_sets, BranchValue, MatchValue, PartValue, TightEdge, Handle, BlossomPart, Branch, branch_sets}
use Rattle.odd_sets.proofs.ListLemmas.{each-last, mapped_reverse, none_left}
use Rattle.odd_sets.proofs.SumLemmas.{bands_push, key_count-append}
use Rattle.odd_sets.proofs.SlotLemmas.{inserted_keeps, keep_branches, keep_seat, sets_fewer}
use Rattle.odd_sets.proofs.ShrinkLemmas.{closed_inside, closed_root}

-- a key in the sets of a search
pub all_uses : (k : ℕ) (root : OddSetValue) (tree : List BranchValue) (rest : List MatchValue) → key_count k (all_dual_sets root tree rest)
    ≡ key_count k (dual_sets root) + key_count k (branch_dual_sets tree) + key_count k (match_dual_sets rest)
all_uses k root tree rest = grind (arith, nat_tests, key_count-append)

-- what the sets of the last branch keep
pub last_kept : (link : TightEdge) (root : OddSetValue) (tree left bs : List BranchValue) (b : BranchValue) (chain : List PartValue)
    (aside : List BranchValue) (way : TightEdge) (to : ℕ) → CanShrink link root tree → IsOpenChain link root tree left chain aside way to
    → left ≡ bs ++ b ∷ [] → IsOddSet b.inner × IsOddSet b.outer
last_kept link root tree left bs b chain aside way to sh c e =
    let firm = subst (λ (ks : List BranchValue). Each (IsSoundBranch sh.t sh.h) ks) e (c.firm sh.t sh.h sh.symmetric sh.tight sh.firm).0 in
    let last = each-last (IsSoundBranch sh.t sh.h) bs b firm in
    (last.inner.kept, last.outer.kept)

-- the sets of a blossom that closes
pub blossom_sets : (sets : Slots) (link : TightEdge) (root : OddSetValue) (tree left bs : List BranchValue) (b : BranchValue)
    (chain : List PartValue) (aside : List BranchValue) (way : TightEdge) (to : ℕ) → IsOpenChain link root tree left chain aside way to
    → left ≡ bs ++ b ∷ [] → AreSets sets (all_dual_sets root tree []) → AreSets sets (dual_sets_in (part_with_edge b.outer way ∷ chain))
blossom_sets sets link root tree left bs b chain aside way to c e are =
    sets_fewer sets (all_dual_sets root tree []) (dual_sets_in (part_with_edge b.outer way ∷ chain)) are (λ k. omega (
      arith,
      all_uses k root tree [],
      key_count-append k (dual_sets b.outer) (dual_sets_in chain),
      c.sums (key_count k) (key_count-append k),
      ap (λ (ks : List BranchValue). key_count k (branch_dual_sets ks)) e,
      bands_push (key_count k) (key_count-append k),
    ))

pub root_sets : (sets : Slots) (link : TightEdge) (root : OddSetValue) (tree left : List BranchValue)
    (chain : List PartValue) (aside : List BranchValue) (way : TightEdge) (to : ℕ) → IsOpenChain link root tree left chain aside way to
    → AreSets sets (all_dual_sets root tree []) → AreSets sets (dual_sets_in (part_with_edge root way ∷ chain))
root_sets sets link root tree left chain aside way to c are =
    sets_fewer sets (all_dual_sets root tree []) (dual_sets_in (part_with_edge root way ∷ chain)) are (λ k. omega (
      arith,
      all_uses k root tree [],
      key_count-append k (dual_sets root) (dual_sets_in chain),
      c.sums (key_count k) (key_count-append k),
    ))

module _ (old new : Slots) (link : TightEdge) (root : Handle) (tree : List Branch) (left bs aside : List Branch)
    (chain : List BlossomPart) (way : TightEdge) (to : ℕ) (blossom : Handle) where
  abbrev Goes : Type 0
  Goes = IsOpenChain link (set_in old root) (branches_in old tree) (branches_in old left) (parts_in old chain) (branches_in old aside) way
      to

  -- the blossom is the outer set of the branch
  pub shrunk_inside : (b : Branch) (mid now : List Branch) → CanShrink link (set_in old root) (branches_in old tree) → Goes
      → branches_in old left ≡ branches_in old bs ++ branch_in old b ∷ [] → CanClose (set_in old b.outer) way (parts_in old chain) to
      → AreSets old (all_dual_sets (set_in old root) (branches_in old tree) []) → InsertsSet old new blossom.key
      → set_in new blossom ≡ closed_blossom blossom.key (set_in old b.outer) way (parts_in old chain)
      → mid ≡ bs ++ (record { up = b.up; inner = b.inner; pair = b.pair; outer = blossom }) ∷ [] → now ≡ mid ++ reverse aside
      → Shrinks (set_in new blossom) link (set_in old root) (set_in new root) (branches_in old tree) (branches_in new now)
  shrunk_inside b mid now sh c e cl are ins is m n =
      let last = branch_in old b in
      let hung : Branch = record { up = b.up; inner = b.inner; pair = b.pair; outer = blossom } in
      let back = reverse (branches_in old aside) in
      let turned = mapped_reverse (branch_in old) aside in
      let count = λ (k : ℕ). all_uses k (set_in old root) (branches_in old tree) [] in
      let sum = λ (k : ℕ). c.sums (key_count k) (key_count-append k) in
      let push = λ (k : ℕ). bands_push (key_count k) (key_count-append k) BranchValue branch_sets (branches_in old bs) last in
      let at = λ (k : ℕ). ap (λ (ks : List BranchValue). key_count k (branch_dual_sets ks)) e in
      let r = keep_seat old new root (inserted_keeps old new blossom.key (dual_sets (set_in old root)) ins.fresh ins.others
      (λ k u. are.each k (omega (arith, u, count k)))) in
      let i = keep_seat old new b.inner (inserted_keeps old new blossom.key (dual_sets (set_in old b.inner)) ins.fresh ins.others
      (λ k u. are.each k (omega (arith, u, count k, sum k, push k, at k)))) in
      let s = keep_branches old new bs (inserted_keeps old new blossom.key (branch_dual_sets (branches_in old bs)) ins.fresh ins.others
      (λ k u. are.each k (omega (arith, u, count k, sum k, push k, at k)))) in
      let a = keep_branches old new (reverse aside) (inserted_keeps old new blossom.key (branch_dual_sets (branches_in old (reverse aside)))
      ins.fresh
      ins.others (λ k u. are.each k (grind (arith, nat_tests, u, count k, sum k)))) in
      let values : branches_in new now
      ≡ (branches_in old bs ++ branch_of b.up last.inner b.pair (set_in new blossom) ∷ []) ++ back =
      ap (λ (ks : List Branch). branches_in new ks) (n ∙ ap (λ (ks : List Branch). ks ++ reverse aside) m)
      ∙ map-append (branch_in new) (bs ++ hung ∷ []) (reverse aside)
      ∙ ap (λ (ks : List BranchValue). ks ++ branches_in new (reverse aside)) (map-append (branch_in new) bs (hung ∷ []))
      ∙ ap (λ (ks : List BranchValue). (ks ++ branch_in new hung ∷ []) ++ branches_in new (reverse aside)) s.same
      ∙ ap (λ (v : OddSetValue). (branches_in old bs ++ branch_of b.up v b.pair (set_in new blossom) ∷ [])
      ++ branches_in new (reverse aside))
      i.same
      ∙ ap (λ (ks : List BranchValue). (branches_in old bs ++ branch_of b.up last.inner b.pair (set_in new blossom) ∷ []) ++ ks)
      (a.same ∙ turned) in
      subst (λ (v : OddSetValue). Shrinks (set_in new blossom) link (set_in old root) v (branches_in old tree) (branches_in new now))
      (sym r.same)
      (closed_inside blossom.key link (set_in old root) (set_in new blossom) (branches_in old tree) (branches_in old left) (branches_in old
      bs)
      (branches_in old bs ++ branch_of b.up last.inner b.pair (set_in new blossom) ∷ []) (branches_in new now) last (parts_in old chain)
      (branches_in old aside) way to sh c e cl
      (last_kept link (set_in old root) (branches_in old tree) (branches_in old left) (branches_in old bs) last (parts_in old chain)
      (branches_in old aside) way to sh c e).1 is refl values)

  -- the blossom is the root
  pub shrunk_root : (rest nothing now : List Branch) → CanShrink link (set_in old root) (branches_in old tree) → Goes
      → length (branches_in old left) ≡ 0
      → AreSets old (all_dual_sets (set_in old root) (branches_in old tree) []) → InsertsSet old new blossom.key
      → set_in new blossom ≡ closed_blossom blossom.key (set_in old root) way (parts_in old chain)
      → left ≡ rest ++ nothing → now ≡ rest ++ reverse aside
      → Shrinks (set_in new blossom) link (set_in old root) (set_in new blossom) (branches_in old tree) (branches_in new now)
  shrunk_root rest nothing now sh c none are ins is m n =
      let turned = mapped_reverse (branch_in old) aside in
      let empty : rest ≡ [] = none_left rest
      (grind (arith, nat_tests, none, length-map left (branch_in old), length-append rest nothing)) in
      let a = keep_branches old new (reverse aside) (inserted_keeps old new blossom.key (branch_dual_sets (branches_in old (reverse aside)))
      ins.fresh
      ins.others (λ k u. are.each k (grind (
        arith,
        nat_tests,
        u,
        all_uses k (set_in old root) (branches_in old tree) [],
        c.sums (key_count
            k) (key_count-append k),
      )))) in
      let values : branches_in new now ≡ reverse (branches_in old aside) =
      ap (λ (ks : List Branch). branches_in new ks) (n ∙ ap (λ (ks : List Branch). ks ++ reverse aside) empty) ∙ a.same ∙ turned in
      closed_root blossom.key link (set_in old root) (set_in new blossom) (branches_in old tree) (branches_in old left) [] []
      (branches_in new now)
      (parts_in old chain) (branches_in old aside) way to (set_in old root) refl sh c none is (none_left (branches_in old left) none) values
