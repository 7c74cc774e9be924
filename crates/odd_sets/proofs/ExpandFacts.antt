-- Expanding: how a blossom of dual 0 is turned and split into branches and matches, and what the search is afterwards.
use Rattle.std.proofs.Common.{◌≡◌, ℕ, ◌+◌, ◌<◌, ◌≤◌, ◌⊎◌, inl, inr, List, [], ◌∷◌, ◌++◌, length, refl, arith, ⊎_elim}
use Rattle.odd_sets.proofs.Names.{BranchValue, CanExpand, CanSplitBlossom, DualSet, Each, Expands, HoldsAtEvenIndex, InsertsBranches, IsAdditive, IsAlternatingTree, IsBlossom, IsEvenlyOriented, IsMatch, IsSoundBranch, IsSoundMatch, IsSoundPart, IsSoundSet, IsSymmetric, IsTight, MatchValue, OddSetValue, PartValue, SplitsBlossom, TableValue, TightEdge, branch_dual_sets, count, dual_sets, dual_sets_in, inner_dual_sets, inner_members, match_dual_sets, match_members, members_in, outer_members, reversed_blossom}
use Rattle.odd_sets.proofs.SetFacts.{link, part, place, tree}

none_there : 1 ≤ 0 → ⊥
none_there is = omega (arith, is)

other : (n : ℕ) → ◌≡◌ {A = ℕ} (1 + n) 0 → ⊥
other n is = omega (arith, is)

-- the three parts of a blossom
abbrev parts : List PartValue
parts = part (place 1 4) 1 2 ∷ part (place 2 5) 2 3 ∷ part (place 3 6) 3 1 ∷ []

-- reversed, the first part is followed by the last one
pub known_reversed : reversed_blossom parts ≡ part (place 1 4) 1 3 ∷ part (place 3 6) 3 2 ∷ part (place 2 5) 2 1 ∷ []
known_reversed = refl

-- the parts at the indexes 0 and 2 hold 1 and 3, and none of them holds 2
pub known_even : (HoldsAtEvenIndex 2 parts → ⊥) × HoldsAtEvenIndex 1 parts × HoldsAtEvenIndex 3 parts
known_even = (λ holds. ⊎_elim none_there none_there holds, inl (omega arith), inr (omega arith))

-- a blossom is turned so that the part at 3 is first, and that of 1 at an even index: the same members and sums
pub known_turned : (p q r : PartValue) (d : TableValue) (h : ℕ → ℕ) → IsEvenlyOriented 3 1 parts (p ∷ q ∷ r ∷ [])
    → IsBlossom (p ∷ q ∷ r ∷ []) × (1 ≤ count 3 p.odd_set.members)
    × ((1 ≤ count 1 p.odd_set.members) ⊎ (1 ≤ count 1 r.odd_set.members)) × (count 2 (members_in (p ∷ q ∷ r ∷ [])) ≡ 1)
    × ((F : List DualSet → ℕ) → IsAdditive F → F (dual_sets_in (p ∷ q ∷ r ∷ [])) ≡ F (dual_sets_in parts))
    × (IsSymmetric d → Each (IsSoundPart d h) parts → Each (IsSoundPart d h) (p ∷ q ∷ r ∷ []))
known_turned p q r d h is = (is.blossom, is.first, is.last, is.places 2, is.sums, λ both sound. is.firm d h both sound)

-- a blossom splits where an edge leads from an outer vertex into its first part, and a matched edge out of the first or third
pub known_can_split : (way pair : TightEdge) (outer : OddSetValue) → CanSplitBlossom (place 0 1) tree parts way pair outer
    → (1 ≤ count way.from (4 ∷ 6 ∷ 0 ∷ [])) × (count way.to (1 ∷ []) ≡ 1)
    × ((1 ≤ count pair.from (1 ∷ [])) ⊎ (1 ≤ count pair.from (3 ∷ []))) × (count pair.to outer.members ≡ 1)
known_can_split way pair outer can = (can.from, can.into.0, can.exit, can.to)

pub known_split_tree : (way pair : TightEdge) (outer : OddSetValue) → CanSplitBlossom (place 8 1) tree parts way pair outer → ⊥
known_split_tree way pair outer can = none_there can.grown.0

pub known_split_even : (way pair : TightEdge) (outer : OddSetValue)
    → CanSplitBlossom (place 0 1) tree (part (place 1 4) 1 2 ∷ part (place 2 5) 2 1 ∷ []) way pair outer → ⊥
known_split_even way pair outer can = even can.odd
  where
    even : ◌≡◌ {A = ℕ} 0 1 → ⊥
    even is = omega (arith, is)

pub known_split_twice : (way pair : TightEdge) (outer : OddSetValue)
    → CanSplitBlossom (place 0 1) tree (part (place 1 4) 1 2 ∷ part (place 2 5) 2 1 ∷ part (place 1 6) 1 1 ∷ []) way pair outer → ⊥
known_split_twice way pair outer can = twice (can.once 1)
  where
    twice : 2 ≤ 1 → ⊥
    twice less = omega (arith, less)

-- split, its parts are further branches, the last with the same outer set, and matches
pub known_split : (way pair : TightEdge) (outer : OddSetValue) (new : List BranchValue) (cs : List MatchValue)
    → (is : SplitsBlossom (place 0 1) tree parts way pair outer new cs)
    → IsAlternatingTree (0 ∷ []) new × Each IsMatch cs
    × (count 2 (outer_members (0 ∷ []) new) + count 2 (inner_members new) + count 2 (match_members cs) ≡ 2 + count 2 outer.members)
    × (1 + count 4 outer.members ≤ count 4 (outer_members (0 ∷ []) new))
    × (new ≡ tree ++ (is.added ++ is.last ∷ [])) × (is.last.outer ≡ outer)
    × (length (inner_dual_sets new) + length (match_dual_sets cs) ≤ 8)
    × ((F : List DualSet → ℕ) → IsAdditive F → F (branch_dual_sets new) + F (match_dual_sets cs)
    ≡ F (branch_dual_sets tree) + F (dual_sets_in parts) + F (dual_sets outer))
    × ((d : TableValue) (h : ℕ → ℕ) → Each (IsSoundBranch d h) tree → IsTight d h way → IsTight d h pair
    → Each (IsSoundPart d h) parts → IsSoundSet d h outer → Each (IsSoundBranch d h) new × Each (IsSoundMatch d h) cs)
known_split way pair outer new cs is = (
  is.grown,
  is.joined,
  is.places 2,
  is.more 4,
  is.is,
  is.same,
  is.fewer,
  is.sums,
  λ d h firm tight out sound end. let after = is.firm d h firm tight out sound end in (after.0, after.1),
)

-- only an inner blossom of dual 0 is expanded
pub known_costly : CanExpand (place 0 1) tree 0 → ⊥
known_costly can = other 6 can.apart.0

pub known_vertex : CanExpand (place 0 1) (record { up = link 0 5; inner = place 5 0; pair = link 5 6; outer = place 6 1 } ∷ []) 0 → ⊥
known_vertex can = none can.apart.1
  where
    none : 0 < 0 → ⊥
    none less = omega (arith, less)

pub known_no_branch : CanExpand (place 0 1) tree 2 → ⊥
known_no_branch can = can.apart

pub known_no_tree : CanExpand (place 8 1) tree 0 → ⊥
known_no_tree can = none_there can.grown.0

pub known_twice : CanExpand (place 4 1) tree 0 → ⊥
known_twice can = twice (can.once 4)
  where
    twice : 2 ≤ 1 → ⊥
    twice less = omega (arith, less)

-- expanded, its parts are branches and matches, with fewer sets inside and that of dual 0 gone
pub known_expanded : (new : List BranchValue) (was now : List MatchValue) (is : Expands 9 (place 0 1) tree new was now)
    → IsAlternatingTree (0 ∷ []) new × (now ≡ was ++ is.more) × (Each IsMatch was → Each IsMatch now)
    × (count 2 (outer_members (0 ∷ []) new) + count 2 (inner_members new) + count 2 (match_members now) ≡ 1 + count 2 (match_members was))
    × (length (inner_dual_sets new) + length (match_dual_sets now) < 5 + length (match_dual_sets was))
    × ((F : List DualSet → ℕ) → IsAdditive F
    → F (branch_dual_sets new) + F (match_dual_sets now) + F (record { key = 9; members = is.blossom; dual = 0 } ∷ [])
    ≡ F (branch_dual_sets tree) + F (match_dual_sets was))
    × ((d : TableValue) (h : ℕ → ℕ) → IsSymmetric d → Each (IsSoundBranch d h) tree → Each (IsSoundMatch d h) was
    → Each (IsSoundBranch d h) new × Each (IsSoundMatch d h) now)
known_expanded new was now is = (
  is.grown,
  is.rest,
  is.joined,
  is.places 2,
  is.fewer,
  is.sums,
  λ d h both firm sound. let after = is.firm d h both firm sound in (after.0, after.1),
)

-- branches come before that at the index 1, whose outer set stays
pub known_inserted : (new : List BranchValue) (is : InsertsBranches 1 tree new)
    → (tree ≡ is.before ++ is.branch ∷ is.later) × (new ≡ is.before ++ (is.added ++ is.last ∷ is.later))
    × (is.last.outer ≡ is.branch.outer) × (length is.before ≡ 1)
known_inserted new is = (is.was, is.now, is.same, is.size)
