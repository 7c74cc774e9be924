-- The slots after a step.
use Rattle.std.proofs.Common.{◌≡◌, ℕ, ◌+◌, ◌≤◌, List, [], ◌∷◌, ◌++◌, Bool, true, false, cond, ltb, arith, refl, sym, ap, subst}
use Rattle.blossom_match.proofs.Names.{nat_tests, DualSet, OddSetValue, dual_sets, count, one_if_equal, key_count, match_dual_sets, reversed_edge, Shrinks, branches_in, matches_in, set_in, AreSets, Slots, all_dual_sets, branch_dual_sets, branch_by_edge, Augments, RemovesMatch, BranchValue, MatchValue, TightEdge, Match, Branch, dual_sets-append, bands_push, hit_is, hit_same, key_count-append, sets_fewer, all_uses, by_count, InsertsSet, CanAugment, inserted_keeps, keep_branches, keep_matches, keep_seat, no_slot, has_slot, set_more}
use Rattle.odd_sets.specs.declared.odd_set.Handle.{Handle}

once_case : (n k key was now : ℕ) → one_if_equal k key ≡ n → now ≡ was + one_if_equal k key → was ≤ 1 → (k ≡ key → was ≡ 0) → now ≤ 1
once_case n k key was now h1 h2 h3 h4 = grind (arith, nat_tests, hit_is, hit_same)

-- a set more
pub more_sets : (old new : Slots) (key : ℕ) (was now : List DualSet) → InsertsSet old new key → AreSets old was
    → ((k : ℕ) → key_count k now ≡ key_count k was + one_if_equal k key) → AreSets new now
more_sets old new key was now h1 h2 h3 = grind (arith, nat_tests, by_count, set_more, hit_is, no_slot, has_slot, hit_same)

-- the other sets stay when one is inserted
pub seat_stays : (old new : Slots) (key : ℕ) (bs : List DualSet) (s : Handle) → InsertsSet old new key → AreSets old bs
    → ((k : ℕ) → key_count k (dual_sets (set_in old s)) ≤ key_count k bs) → set_in new s ≡ set_in old s
seat_stays old new key bs s ins are low =
    (keep_seat old new s (inserted_keeps old new key (dual_sets (set_in old s)) ins.fresh ins.others
    (λ k u. are.each k (omega (arith, u, low k))))).same

pub matches_stay : (old new : Slots) (key : ℕ) (bs : List DualSet) (cs : List Match) → InsertsSet old new key → AreSets old bs
    → ((k : ℕ) → key_count k (match_dual_sets (matches_in old cs)) ≤ key_count k bs) → matches_in new cs ≡ matches_in old cs
matches_stay old new key bs cs ins are low =
    (keep_matches old new cs (inserted_keeps old new key (match_dual_sets (matches_in old cs)) ins.fresh ins.others
    (λ k u. are.each k (omega (arith, u, low k))))).same

pub branches_stay : (old new : Slots) (key : ℕ) (bs : List DualSet) (ks : List Branch) → InsertsSet old new key → AreSets old bs
    → ((k : ℕ) → key_count k (branch_dual_sets (branches_in old ks)) ≤ key_count k bs) → branches_in new ks ≡ branches_in old ks
branches_stay old new key bs ks ins are low =
    (keep_branches old new ks (inserted_keeps old new key (branch_dual_sets (branches_in old ks)) ins.fresh ins.others
    (λ k u. are.each k (omega (arith, u, low k))))).same

-- a search after a set was inserted
pub record AllStay (old new : Slots) (root : Handle) (tree : List Branch) (rest : List Match) : Type 0 where
  pub same_root : set_in new root ≡ set_in old root
  pub same_tree : branches_in new tree ≡ branches_in old tree
  pub same_rest : matches_in new rest ≡ matches_in old rest

pub all_stay : (old new : Slots) (key : ℕ) (root : Handle) (tree : List Branch) (rest : List Match) → InsertsSet old new key
    → AreSets old (all_dual_sets (set_in old root) (branches_in old tree) (matches_in old rest)) → AllStay old new root tree rest
all_stay old new key root tree rest ins are =
    let all = all_dual_sets (set_in old root) (branches_in old tree) (matches_in old rest) in
    let sum = λ (k : ℕ). all_uses k (set_in old root) (branches_in old tree) (matches_in old rest) in
    record {
      same_root = seat_stays old new key all root ins are (λ k. omega (arith, sum k));
      same_tree = branches_stay old new key all tree ins are (λ k. omega (arith, sum k));
      same_rest = matches_stay old new key all rest ins are (λ k. omega (arith, sum k));
    }

pub augmenting_new : (old new : Slots) (root : Handle) (tree : List Branch) (rest : List Match) (m : OddSetValue) (link : TightEdge)
    → AllStay old new root tree rest → CanAugment m link (set_in old root) (branches_in old tree)
    → CanAugment m link (set_in new root) (branches_in new tree)
augmenting_new old new root tree rest m link stay can =
    subst (λ (v : OddSetValue). CanAugment m link v (branches_in new tree)) (sym stay.same_root)
    (subst (λ (ks : List BranchValue). CanAugment m link (set_in old root) ks) (sym stay.same_tree) can)

pub augments_old : (old new : Slots) (root : Handle) (tree : List Branch) (rest : List Match) (m : OddSetValue) (link : TightEdge)
    (now : List MatchValue) → AllStay old new root tree rest
    → Augments (set_in new root) m link (branches_in new tree) (matches_in new rest) now
    → Augments (set_in old root) m link (branches_in old tree) (matches_in old rest) now
augments_old old new root tree rest m link now stay aug =
    subst (λ (v : OddSetValue). Augments v m link (branches_in old tree) (matches_in old rest) now) stay.same_root
    (subst (λ (ks : List BranchValue). Augments (set_in new root) m link ks (matches_in old rest) now) stay.same_tree
    (subst (λ (ks : List MatchValue). Augments (set_in new root) m link (branches_in new tree) ks now) stay.same_rest aug))

-- a match moved into the tree
hung_uses : (b : Bool) (k : ℕ) (up : TightEdge) (c : MatchValue) (h : BranchValue)
    → h ≡ cond b (record { up = up; inner = c.first; pair = c.link; outer = c.second })
    (record { up = up; inner = c.second; pair = reversed_edge c.link; outer = c.first })
    → key_count k (dual_sets h.inner) + key_count k (dual_sets h.outer) ≡ key_count k (dual_sets c.first) + key_count k (dual_sets c.second)
hung_uses true k up c h e = grind (arith, nat_tests)
hung_uses false k up c h e = grind (arith, nat_tests)

pub grown_sets : (sets : Slots) (place : ℕ) (up : TightEdge) (root : OddSetValue) (tree now : List BranchValue)
    (rest left : List MatchValue) (c : MatchValue) → RemovesMatch place rest left c → now ≡ tree ++ branch_by_edge up c ∷ []
    → AreSets sets (all_dual_sets root tree rest) → AreSets sets (all_dual_sets root now left)
grown_sets sets place up root tree now rest left c out e are =
    sets_fewer sets (all_dual_sets root tree rest) (all_dual_sets root now left) are (λ k. omega (
      arith,
      all_uses k root tree rest,
      all_uses k root now left,
      ap (λ (ks : List BranchValue). key_count k (branch_dual_sets ks)) e,
      bands_push (key_count k) (key_count-append k),
      hung_uses (ltb 0 (count up.to c.first.members)) k up c (branch_by_edge up c) refl,
      ap (λ (ks : List MatchValue). key_count k (match_dual_sets ks)) out.was,
      ap (λ (ks : List MatchValue). key_count k (match_dual_sets ks)) out.now,
      dual_sets-append (key_count k) (key_count-append k),
      key_count-append k (dual_sets c.first) (dual_sets c.second ++ match_dual_sets out.after),
      key_count-append k (dual_sets c.second) (match_dual_sets out.after),
    ))

-- a blossom closes
pub closed_sets : (old new : Slots) (blossom : OddSetValue) (link : TightEdge) (root top : OddSetValue) (tree now : List BranchValue)
    (rest left : List MatchValue) → InsertsSet old new blossom.key → Shrinks blossom link root top tree now → left ≡ rest
    → AreSets old (all_dual_sets root tree rest) → AreSets new (all_dual_sets top now left)
closed_sets old new blossom link root top tree now rest left ins sh e are =
    more_sets old new blossom.key (all_dual_sets root tree rest) (all_dual_sets top now left) ins are
    (λ k. grind (arith, nat_tests, all_uses k root tree rest, all_uses k top now left, sh.sums (key_count k) (key_count-append k)))

-- all sets of the tree and the one of the free place are matches
pub met_sets : (old new : Slots) (link : TightEdge) (root m : OddSetValue) (tree : List BranchValue) (rest now : List MatchValue)
    → InsertsSet old new m.key → m.below ≡ [] → Augments root m link tree rest now
    → AreSets old (all_dual_sets root tree rest) → AreSets new (match_dual_sets now)
met_sets old new link root m tree rest now ins alone aug are =
    more_sets old new m.key (all_dual_sets root tree rest) (match_dual_sets now) ins are
    (λ k. grind (arith, nat_tests, all_uses k root tree rest, aug.sums (key_count k) (key_count-append k)))

-- a search of one place more
pub begun_sets : (old new : Slots) (m : OddSetValue) (tree : List BranchValue) (rest left : List MatchValue) → InsertsSet old new m.key
    → m.below ≡ [] → tree ≡ [] → left ≡ rest → AreSets old (match_dual_sets rest) → AreSets new (all_dual_sets m tree left)
begun_sets old new m tree rest left ins alone none e are =
    more_sets old new m.key (match_dual_sets rest) (all_dual_sets m tree left) ins are
    (λ k. grind (arith, nat_tests, all_uses k m tree left))
