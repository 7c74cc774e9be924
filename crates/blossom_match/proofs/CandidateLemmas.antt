-- The vertex to which an edge becomes tight by the least change of duals.
use Rattle.std.proofs.Common.{◌≡◌, ℕ, ◌+◌, ◌≤◌, ◌<◌, List, [], ◌∷◌, length, take, drop, get_or, None, arith, ap, ◌∙◌}
use Rattle.blossom_match.proofs.Names.{nat_tests, OddSetValue, count, outer_with_both, outer_members, outer_sets, count_holding_both, slack_from, IsOuterSlack, IsBestCandidate, IsCandidateAmong, CanFindEdge, TableValue, BranchValue, Target, Kind, either, drop_here, take_here, count-append, members-append, members_push, outer_places, around_append, base_in, around_first, by_count, by_either, FindsSlackInSet, number_here}
use Rattle.blossom_match.proofs.ScanLemmas.{split_here}

aims_in : (hs reach : List ℕ) (k : Kind) (xs zs : List ℕ) (aim : Target) → ((x : ℕ) → count x xs ≤ count x zs)
    → IsCandidateAmong hs reach k xs aim → IsCandidateAmong hs reach k zs aim
aims_in hs reach k xs zs aim more a = record { kind = a.kind; there = omega (arith, a.there, more aim.to); near = a.near; by = a.by }

-- the places of two lists
pub aims_join : (hs reach : List ℕ) (k : Kind) (xs ys zs : List ℕ) (o m n : Target) → ((x : ℕ) → count x zs ≡ count x xs + count x ys)
    → IsBestCandidate hs reach k xs o m → IsBestCandidate hs reach k ys m n → IsBestCandidate hs reach k zs o n
aims_join hs reach k xs ys zs o m n h1 h2 h3 = grind (arith, nat_tests, either, aims_in)

-- one place more
pub aims_next : (hs reach : List ℕ) (k : Kind) (ys : List ℕ) (i : ℕ) (o m n : Target) → i < length ys
    → IsBestCandidate hs reach k (take i ys) o m
    → IsBestCandidate hs reach k (get_or ys i 0 ∷ []) m n → IsBestCandidate hs reach k (take (i + 1) ys) o n
aims_next hs reach k ys i o m n h1 h2 h3 = grind (arith, nat_tests, aims_join, number_here, count-append)

-- one outer set more
pub aims_outer : (hs reach : List ℕ) (k : Kind) (base : List ℕ) (tree : List BranchValue) (i : ℕ) (b : BranchValue) (o m n : Target)
    → i < length tree → b ≡ get_or tree i b → IsBestCandidate hs reach k (outer_members base (take i tree)) o m
    → IsBestCandidate hs reach k b.outer.members m n → IsBestCandidate hs reach k (outer_members base (take (i + 1) tree)) o n
aims_outer hs reach k base tree i b o m n low is one two =
    aims_join hs reach k (outer_members base (take i tree)) b.outer.members (outer_members base (take (i + 1) tree)) o m n
    (λ x. omega (arith, members_push, ap (λ (ks : List BranchValue). count x (outer_members base ks)) (take_here tree i b low is)))
    one two

-- the aim is reached
pub reached : (t : TableValue) (hs : List ℕ) (root : OddSetValue) (tree : List BranchValue) (reach : List ℕ) (aim : Target)
    → CanFindEdge t hs root tree reach aim → IsOuterSlack t hs root tree aim.to (get_or reach aim.to 0)
reached t hs root tree reach aim h1 = grind (arith, nat_tests, by_either)

-- one of the branches' outer vertices has that slack
pub record IsBelow (t : TableValue) (hs : List ℕ) (tree : List BranchValue) (x left : ℕ) : Type 0 where
  pub a : ℕ
  pub here : 1 ≤ count a (outer_members [] tree)
  pub apart : outer_with_both a x tree ≡ 0
  pub exact : left ≡ slack_from t hs a x

-- the root's places do not
pub below_root : (t : TableValue) (hs : List ℕ) (root : OddSetValue) (tree : List BranchValue) (x left : ℕ)
    → IsOuterSlack t hs root tree x left → FindsSlackInSet t hs root x left None → IsBelow t hs tree x left
below_root t hs root tree x left r none = by_count (count r.a root.members)
    (λ e. record {
      a = r.a;
      here = omega (arith, r.here, e, members-append outer_sets r.a root.members [] tree);
      apart = omega (arith, r.apart);
      exact = r.exact;
    })
    (λ e. absurd (none (omega (arith, r.apart, e)) (record { a = r.a; here = omega (arith, e); exact = r.exact })))

-- nor those of this branch
pub below_next : (t : TableValue) (hs : List ℕ) (tree : List BranchValue) (i : ℕ) (b : BranchValue) (x left : ℕ) → i < length tree
    → b ≡ get_or tree i b → IsBelow t hs (drop i tree) x left → FindsSlackInSet t hs b.outer x left None
    → IsBelow t hs (drop (i + 1) tree) x left
below_next t hs tree i b x left h1 h2 h3 h4 = grind (arith, nat_tests, by_count, drop_here, outer_places)

-- no set holds a place of the root and one outside it
pub root_apart : (a x : ℕ) (root : OddSetValue) (tree : List BranchValue) → ((y : ℕ) → count y (outer_members root.members tree) ≤ 1)
    → 1 ≤ count a root.members → count x root.members ≡ 0 → count_holding_both a x root tree ≡ 0
root_apart a x root tree once here none =
    let out : count a (outer_members [] tree) ≡ 0 = omega (arith, once a, here, members-append outer_sets a root.members [] tree) in
    omega (arith, around_first a x [] tree out, none)

-- nor one of the branch's outer set and one outside it
pub outer_apart : (a x : ℕ) (root : OddSetValue) (tree : List BranchValue) (i : ℕ) (b : BranchValue)
    → ((y : ℕ) → count y (outer_members root.members tree) ≤ 1) → i < length tree → b ≡ get_or tree i b
    → 1 ≤ count a b.outer.members → count x b.outer.members ≡ 0 → count_holding_both a x root tree ≡ 0
outer_apart a x root tree i b once low is here none =
    let s = split_here tree i b low is in
    let before = take i tree in
    let after = drop (i + 1) tree in
    let at = ap (λ (ks : List BranchValue). count a (outer_members root.members ks)) s
    ∙ members-append outer_sets a root.members before (b ∷ after) in
    let on = count-append a b.outer.members (outer_members [] after) in
    let first : count a (outer_members root.members before) ≡ 0 = omega (arith, once a, at, on, here) in
    let last : count a (outer_members [] after) ≡ 0 = omega (arith, once a, at, on, here) in
    grind (arith, nat_tests, around_append, around_first, base_in, first, none)
