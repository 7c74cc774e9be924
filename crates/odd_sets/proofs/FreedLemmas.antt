-- The slot of a set that is expanded.
use Rattle.std.proofs.Common.{◌≡◌, ℕ, suc, get_or, ◌+◌, ◌≤◌, ◌<◌, List, [], ◌∷◌, ◌++◌, take, drop, length, ltb, Option, Some, None, arith, sym, ap, subst, ◌∙◌}
use Rattle.odd_sets.proofs.Names.{nat_tests, length-map, map-append, lt-ltb, ltb-true, get, ContainsKey, Updates, DualSet, OddSetValue, dual_sets, count, one_if_equal, key_count, match_dual_sets, dual_sets_in, members_in, odd_set_of, IsBlossom, CanSplitBlossom, CanExpand, Expands, IsEvenlyOriented, InsertsBranches, SplitsBlossom, branch_in, branches_in, match_in, matches_in, members_at, slot_members, slacks_at, part_in, parts_at, parts_in, slot_parts, set_in, AreSets, Slots, all_dual_sets, branch_dual_sets, BranchValue, MatchValue, PartValue, Handle, Slot, Match, Branch}
use Rattle.odd_sets.proofs.ListLemmas.{mapped_drop, mapped_last, mapped_take, parted}
use Rattle.odd_sets.proofs.SumLemmas.{dual_sets-append, bands_push, hit_same, key_count-append}
use Rattle.odd_sets.proofs.SlotLemmas.{can_left, can_right, has_slot, is_made, keep_branches, keep_matches, keep_parts, keep_seat, kept_append, parts_show, removed_keeps, set_made, set_of, sets_fewer, AreKept}
use Rattle.odd_sets.proofs.OpenLemmas.{made_blossom}
use Rattle.odd_sets.proofs.ShrunkLemmas.{all_uses}
use Rattle.odd_sets.proofs.ExpandLemmas.{apart_within, can_lay, expanded, grows_at, split_at, SplitAt}

-- the sets of a search without the one that comes apart: the root, the branches before, its parts,
-- its partner, the branches after it, and the matches
abbrev others : OddSetValue → List BranchValue → List PartValue → OddSetValue → List BranchValue → List MatchValue → List DualSet
others root bs ps outer later rest =
    dual_sets root ++ (branch_dual_sets bs ++ (dual_sets_in ps ++ (dual_sets outer ++ (branch_dual_sets later ++ match_dual_sets rest))))

others_uses : (k : ℕ) (root : OddSetValue) (bs : List BranchValue) (ps : List PartValue) (outer : OddSetValue) (later : List BranchValue)
    (rest : List MatchValue) → key_count k (others root bs ps outer later rest)
    ≡ key_count k (dual_sets root) + key_count k (branch_dual_sets bs) + key_count k (dual_sets_in ps) + key_count k (dual_sets outer)
    + key_count k (branch_dual_sets later)
    + key_count k (match_dual_sets rest)
others_uses k root bs ps outer later rest = grind (arith, nat_tests, key_count-append)

-- the sets of a search, by the one that comes apart and the others
split_uses : (k key : ℕ) (root : OddSetValue) (tree bs : List BranchValue) (b : BranchValue) (later : List BranchValue)
    (rest : List MatchValue)
    (ps : List PartValue) (near : List ℕ) → tree ≡ (bs ++ b ∷ []) ++ later → b.inner ≡ odd_set_of key (members_in ps) b.inner.dual near ps
    → key_count k (all_dual_sets root tree rest) ≡ one_if_equal k key + key_count k (others root bs ps b.outer later rest)
split_uses k key root tree bs b later rest ps near is made =
    omega (
      arith,
      all_uses k root tree rest,
      others_uses k root bs ps b.outer later rest,
      ap (λ (ks : List BranchValue). key_count k (branch_dual_sets ks)) is,
      dual_sets-append (key_count k) (key_count-append k),
      bands_push (key_count k) (key_count-append k),
      ap (λ (v : OddSetValue). key_count k (dual_sets v)) made,
    )

-- the inner set has a slot
inner_used : (k : ℕ) (root : OddSetValue) (tree bs : List BranchValue) (b : BranchValue) (later : List BranchValue) (rest : List MatchValue)
    → tree ≡ (bs ++ b ∷ []) ++ later → key_count k (dual_sets b.inner) ≤ key_count k (all_dual_sets root tree rest)
inner_used k root tree bs b later rest is =
    omega (
      arith,
      all_uses k root tree rest,
      ap (λ (ks : List BranchValue). key_count k (branch_dual_sets ks)) is,
      dual_sets-append (key_count k) (key_count-append k),
      bands_push (key_count k) (key_count-append k),
    )

-- a blossom has parts
shown : (sets : Slots) (s : Handle) → 0 < length (set_in sets s).below → 0 < length (parts_in sets (parts_at sets s.key))
shown sets s some =
    ltb-true 0 (length (parts_in sets (parts_at sets s.key))) (ap (λ (n : ℕ). ltb 0 n) (length-map (parts_at sets s.key) (part_in sets))
    ∙ parts_show (length (members_at sets s.key)) sets (parts_at sets s.key) ∙ lt-ltb 0 (length (set_in sets s).below) some)

module _ (old : Slots) (root : Handle) (tree bs later : List Branch) (b : Branch) (rest : List Match) where
  abbrev IsSplit : Type 0
  IsSplit = SplitAt (set_in old root) (branches_in old tree) (branches_in old bs) (branch_in old b) (branches_in old later)

  -- the branch at the index is taken out, and the others are cut there
  apart_at : (left : List Branch) (at : ℕ) → CanExpand (set_in old root) (branches_in old tree) at → b ≡ get_or tree at b
      → left ≡ take at tree ++ drop (suc at) tree → bs ≡ take at left → later ≡ drop at left
      → (later ≡ drop (at + 1) tree) × (take (at + 1) tree ≡ bs ++ b ∷ [])
  apart_at left at ex =
      parted tree left bs later at b (omega (arith, apart_within at (branches_in old tree) ex.apart, length-map tree (branch_in old)))

  pub split_slots : (left : List Branch) (at : ℕ) → CanExpand (set_in old root) (branches_in old tree) at → b ≡ get_or tree at b
      → left ≡ take at tree ++ drop (suc at) tree → bs ≡ take at left → later ≡ drop at left → IsSplit
  split_slots left at ex e f g h =
      let two = apart_at left at ex e f g h in
      split_at (set_in old root) (branches_in old tree) (branches_in old (take (at + 1) tree)) (branches_in old bs) (branch_in old b)
      (branches_in old later)
      at ex (sym (mapped_take (branch_in old) (at + 1) tree))
      (ap (λ (ks : List Branch). branches_in old ks) two.0 ∙ sym (mapped_drop (branch_in old) (at + 1) tree))
      (mapped_last (branch_in old) (take (at + 1) tree) bs b two.1)

  abbrev Stand : Type 0
  Stand = AreSets old (all_dual_sets (set_in old root) (branches_in old tree) (matches_in old rest))

  inner_sets : IsSplit → Stand → AreSets old (dual_sets (set_in old b.inner))
  inner_sets s are =
      sets_fewer old (all_dual_sets (set_in old root) (branches_in old tree) (matches_in old rest)) (dual_sets (set_in old b.inner)) are
      (λ k. inner_used k (set_in old root) (branches_in old tree) (branches_in old bs) (branch_in old b) (branches_in old later)
      (matches_in old rest) s.is)

  pub inner_slot : IsSplit → Stand → ContainsKey old b.inner.key
  inner_slot s are = has_slot old b.inner.key (set_of old b.inner (inner_sets s are))

  module _ (new : Slots) (slot : Slot) where
    -- the blossom that the slot held, and that all others are as they were
    pub record Freed : Type 0 where
      pub apart : IsSplit
      pub blossom : IsBlossom (parts_in old slot.parts.items)
      pub made : set_in old b.inner ≡ odd_set_of b.inner.key (members_in (parts_in old slot.parts.items)) b.inner.dual
          (slacks_at old b.inner.key) (parts_in old slot.parts.items)
      pub same_root : set_in new root ≡ set_in old root
      pub same_before : branches_in new bs ≡ branches_in old bs
      pub same_parts : parts_in new slot.parts.items ≡ parts_in old slot.parts.items
      pub same_outer : set_in new b.outer ≡ set_in old b.outer
      pub same_later : branches_in new later ≡ branches_in old later
      pub same_rest : matches_in new rest ≡ matches_in old rest
      pub kept : AreKept old new (others (set_in old root) (branches_in old bs) (parts_in old slot.parts.items) (set_in old b.outer)
          (branches_in old later) (matches_in old rest))
      pub split : (k : ℕ) → key_count k (all_dual_sets (set_in old root) (branches_in old tree) (matches_in old rest))
          ≡ one_if_equal k b.inner.key + key_count k (others (set_in old root) (branches_in old bs) (parts_in old slot.parts.items)
          (set_in old b.outer)
          (branches_in old later) (matches_in old rest))

    pub freed : IsSplit → Stand → get old b.inner.key ≡ Some slot → Updates old new b.inner.key None → Freed
    freed s are is up =
        let key = b.inner.key in
        let ps = slot.parts.items in
        let set = set_of old b.inner (inner_sets s are) in
        let some : 0 < length (parts_in old (parts_at old key)) = shown old b.inner s.some in
        let whole = made_blossom (members_at old key) (parts_in old (parts_at old key)) some (is_made old key set) in
        let all = subst (λ (o : Option Slot). (slot_members o ≡ members_in (parts_in old (slot_parts o))) × IsBlossom
        (parts_in old (slot_parts o))) is
        whole in
        let made = set_made old b.inner set
        ∙ ap (λ (o : Option Slot). odd_set_of key (slot_members o) b.inner.dual (slacks_at old key) (parts_in old (slot_parts o))) is
        ∙ ap (λ (ms : List ℕ). odd_set_of key ms b.inner.dual (slacks_at old key) (parts_in old ps)) all.0 in
        let r = dual_sets (set_in old root) in
        let p = branch_dual_sets (branches_in old bs) in
        let q = dual_sets_in (parts_in old ps) in
        let o = dual_sets (set_in old b.outer) in
        let l = branch_dual_sets (branches_in old later) in
        let c = match_dual_sets (matches_in old rest) in
        let sum = λ (k : ℕ). split_uses k key (set_in old root) (branches_in old tree) (branches_in old bs) (branch_in old b)
        (branches_in old later) (matches_in old rest) (parts_in old ps) (slacks_at old key) s.is made in
        let can = removed_keeps old new key (r ++ (p ++ (q ++ (o ++ (l ++ c))))) up.others
        (omega (arith, sum key, are.once key, hit_same key))
        (λ k u. are.each k (omega (arith, u, sum k))) in
        let can1 = can_right old new r (p ++ (q ++ (o ++ (l ++ c)))) can in
        let can2 = can_right old new p (q ++ (o ++ (l ++ c))) can1 in
        let can3 = can_right old new q (o ++ (l ++ c)) can2 in
        let can4 = can_right old new o (l ++ c) can3 in
        let kr = keep_seat old new root (can_left old new r (p ++ (q ++ (o ++ (l ++ c)))) can) in
        let kp = keep_branches old new bs (can_left old new p (q ++ (o ++ (l ++ c))) can1) in
        let kq = keep_parts old new ps (can_left old new q (o ++ (l ++ c)) can2) in
        let ko = keep_seat old new b.outer (can_left old new o (l ++ c) can3) in
        let kl = keep_branches old new later (can_left old new l c can4) in
        let kc = keep_matches old new rest (can_right old new l c can4) in
        record {
          apart = s;
          blossom = all.1;
          made = made;
          same_root = kr.same;
          same_before = kp.same;
          same_parts = kq.same;
          same_outer = ko.same;
          same_later = kl.same;
          same_rest = kc.same;
          kept = kept_append old new r (p ++ (q ++ (o ++ (l ++ c)))) kr.kept (kept_append old new p (q ++ (o ++ (l ++ c))) kp.kept
              (kept_append old new q (o ++ (l ++ c)) kq.kept (kept_append old new o (l ++ c) ko.kept
              (kept_append old new l c kl.kept kc.kept))));
          split = sum;
        }

module _ {old new : Slots} {root : Handle} {tree bs later : List Branch} {b : Branch} {rest : List Match} {slot : Slot}
    (f : Freed old root tree bs later b rest new slot) where
  pub blossom_stays : IsBlossom (parts_in new slot.parts.items)
  blossom_stays = subst (λ (ps : List PartValue). IsBlossom ps) (sym f.same_parts) f.blossom

  -- the blossom's places are those of the inner set
  pub places_stay : (x : ℕ) → count x (members_in (parts_in new slot.parts.items)) ≡ count x (set_in old b.inner).members
  places_stay x =
      ap (λ (ps : List PartValue). count x (members_in ps)) f.same_parts ∙ sym (ap (λ (v : OddSetValue). count x v.members) f.made)

  abbrev Evenly : List PartValue → Type 0
  Evenly blossom = IsEvenlyOriented b.up.to b.pair.from (parts_in new slot.parts.items) blossom

  evenly_old : (blossom : List PartValue) → Evenly blossom → IsEvenlyOriented b.up.to b.pair.from (parts_in old slot.parts.items) blossom
  evenly_old blossom g = subst (λ (ps : List PartValue). IsEvenlyOriented b.up.to b.pair.from ps blossom) f.same_parts g

  pub can_lay_freed : (blossom : List PartValue) → Evenly blossom
      → CanSplitBlossom (set_in new root) (branches_in new bs) blossom b.up b.pair (set_in new b.outer)
  can_lay_freed blossom g =
      let can = can_lay b.inner.key (set_in old root) (branches_in old tree) (branches_in old bs) (branch_in old b)
      (branches_in old later) (parts_in old slot.parts.items) blossom f.apart f.made (evenly_old blossom g) in
      subst (λ (v : OddSetValue). CanSplitBlossom v (branches_in new bs) blossom b.up b.pair (set_in new b.outer)) (sym f.same_root)
      (subst (λ (ks : List BranchValue). CanSplitBlossom (set_in old root) ks blossom b.up b.pair (set_in new b.outer)) (sym f.same_before)
      (subst (λ (v : OddSetValue). CanSplitBlossom (set_in old root) (branches_in old bs) blossom b.up b.pair v) (sym f.same_outer) can))

  abbrev Laid : List PartValue → List BranchValue → List MatchValue → Type 0
  Laid blossom mid cs = SplitsBlossom (set_in new root) (branches_in new bs) blossom b.up b.pair (set_in new b.outer) mid cs

  laid_old : (blossom : List PartValue) (mid : List BranchValue) (cs : List MatchValue) → Laid blossom mid cs
      → SplitsBlossom (set_in old root) (branches_in old bs) blossom b.up b.pair (set_in old b.outer) mid cs
  laid_old blossom mid cs l =
      subst (λ (v : OddSetValue). SplitsBlossom v (branches_in old bs) blossom b.up b.pair (set_in old b.outer) mid cs) f.same_root
      (subst (λ (ks : List BranchValue). SplitsBlossom (set_in new root) ks blossom b.up b.pair (set_in old b.outer) mid cs) f.same_before
      (subst (λ (v : OddSetValue). SplitsBlossom (set_in new root) (branches_in new bs) blossom b.up b.pair v mid cs) f.same_outer l))

  module _ (blossom : List PartValue) (mid now : List Branch) (cs all : List Match) where
    mid_more : now ≡ mid ++ later → branches_in new now ≡ branches_in new mid ++ branches_in old later
    mid_more m =
        ap (λ (ks : List Branch). branches_in new ks) m ∙ map-append (branch_in new) mid later
        ∙ ap (λ (ks : List BranchValue). branches_in new mid ++ ks) f.same_later

    pub expanded_freed : Evenly blossom → Laid blossom (branches_in new mid) (matches_in new cs) → all ≡ rest ++ cs → now ≡ mid ++ later
        → Expands b.inner.key (set_in old root) (branches_in old tree) (branches_in new now) (matches_in old rest) (matches_in new all)
    expanded_freed g l e m =
        expanded b.inner.key (set_in old root) (branches_in old tree) (branches_in old bs) (branch_in old b) (branches_in old later)
        (branches_in new mid) (branches_in new now) (parts_in old slot.parts.items) blossom (matches_in old rest) (matches_in new cs)
        (matches_in new all) f.apart f.blossom f.made (evenly_old blossom g) (laid_old blossom (branches_in new mid) (matches_in new cs) l)
        (ap (λ (ks : List Match). matches_in new ks) e ∙ map-append (match_in new) rest cs
        ∙ ap (λ (ks : List MatchValue). ks ++ matches_in new cs) f.same_rest) (mid_more m)

    -- the sets after it are the others
    now_uses : (k : ℕ)
        → Expands b.inner.key (set_in old root) (branches_in old tree) (branches_in new now) (matches_in old rest) (matches_in new all)
        → key_count k (all_dual_sets (set_in new root) (branches_in new now) (matches_in new all))
        ≡ key_count k (others (set_in old root) (branches_in old bs) (parts_in old slot.parts.items) (set_in old b.outer)
        (branches_in old later) (matches_in old rest))
    now_uses k x =
        omega (
          arith,
          all_uses k (set_in new root) (branches_in new now) (matches_in new all),
          all_uses k (set_in old root) (branches_in old tree) (matches_in old rest),
          ap (λ (v : OddSetValue). key_count k (dual_sets v)) f.same_root,
          x.sums (key_count k) (key_count-append k),
          f.split k,
        )

    -- no set more than before but the parts of the one that came apart
    pub freed_sets : Stand old root tree bs later b rest → Evenly blossom → Laid blossom (branches_in new mid) (matches_in new cs)
        → all ≡ rest ++ cs → now ≡ mid ++ later → AreSets new (all_dual_sets (set_in new root) (branches_in new now) (matches_in new all))
    freed_sets are g l e m =
        let x = expanded_freed g l e m in
        record {
          each = λ k u. f.kept.sets k (omega (arith, u, now_uses k x));
          once = λ k. omega (arith, now_uses k x, are.once k, f.split k);
        }

    pub grows_freed : (left : List Branch) (at : ℕ)
        → CanExpand (set_in old root) (branches_in old tree) at → b ≡ get_or tree at b → left ≡ take at tree ++ drop (suc at) tree
        → bs ≡ take at left → later ≡ drop at left → Laid blossom (branches_in new mid) (matches_in new cs) → now ≡ mid ++ later
        → InsertsBranches at (branches_in old tree) (branches_in new now)
    grows_freed left at ex e f g h l m =
        let two = apart_at old root tree bs later b rest left at ex e f g h in
        grows_at (set_in old root) (branches_in old tree) (branches_in old (take (at + 1) tree)) (branches_in old bs) (branch_in old b)
        (branches_in old later) (branches_in new mid) (branches_in new now) blossom (matches_in new cs) at ex
        (sym (mapped_take (branch_in old) (at + 1) tree))
        (ap (λ (ks : List Branch). branches_in old ks) two.0 ∙ sym (mapped_drop (branch_in old) (at + 1) tree))
        (mapped_last (branch_in old) (take (at + 1) tree) bs b two.1) (laid_old blossom (branches_in new mid) (matches_in new cs) l)
        (mid_more m)
