-- The alternating tree of a search, as a list of branches, the oldest first.
use Rattle.std.specs.Prelude.{◌≡◌, ℕ, ◌+◌, ◌≤◌, List, [], ◌∷◌, ◌++◌, min, nat_lt, if◌then◌else◌}
use Rattle.std.specs.List.{flat_map}
use Rattle.odd_sets.specs.TableValue.{TableValue}
use Rattle.odd_sets.specs.Lists.{Each, sum_over}
use Rattle.odd_sets.specs.DualSets.{IsAdditive, DualSet, OddSetValue, dual_sets, dual_sets_of, count, members_onto}
use Rattle.odd_sets.specs.Blossoms.{reversed_edge}
use Rattle.odd_sets.specs.MatchedSets.{match_members, match_dual_sets, IsMatch}
use Rattle.odd_sets.specs.SoundSets.{IsTight, IsSoundSet, IsSoundBranch, IsSoundMatch}
use Rattle.odd_sets.specs.declared.odd_set.TightEdge.{TightEdge}
use Rattle.odd_sets.specs.Values.{BranchValue, MatchValue}

-- The two sets of a branch.
abbrev pub branch_sets : BranchValue → List OddSetValue
branch_sets b = b.inner ∷ b.outer ∷ []

-- The outer set of a branch.
abbrev pub outer_sets : BranchValue → List OddSetValue
outer_sets b = b.outer ∷ []

-- The inner set of a branch.
abbrev pub inner_sets : BranchValue → List OddSetValue
inner_sets b = b.inner ∷ []

-- The vertices of the root and of the outer sets.
abbrev pub outer_members : List ℕ → List BranchValue → List ℕ
outer_members places bs = members_onto places (flat_map outer_sets bs)

-- The vertices of the inner sets.
abbrev pub inner_members : List BranchValue → List ℕ
inner_members bs = members_onto [] (flat_map inner_sets bs)

-- The sets of the branches, with all sets inside them.
abbrev pub branch_dual_sets : List BranchValue → List DualSet
branch_dual_sets bs = dual_sets_of (flat_map branch_sets bs)

-- The inner sets of the branches, with all sets inside them.
abbrev pub inner_dual_sets : List BranchValue → List DualSet
inner_dual_sets bs = dual_sets_of (flat_map inner_sets bs)

-- All sets of a search: the root, the tree and the matches outside it.
abbrev pub all_dual_sets : OddSetValue → List BranchValue → List MatchValue → List DualSet
all_dual_sets root tree rest = dual_sets root ++ (branch_dual_sets tree ++ match_dual_sets rest)

-- An alternating tree: each branch leads from an earlier outer set to its inner set, and on to its
-- outer set. The list `places` has the vertices of the outer sets before.
abbrev pub IsAlternatingTree : List ℕ → List BranchValue → Type 0
IsAlternatingTree places [] = Unit {0}
IsAlternatingTree places (b ∷ bs) =
    (1 ≤ count b.up.from places) × (count b.up.to b.inner.members ≡ 1)
    × (count b.pair.from b.inner.members ≡ 1)
    × (count b.pair.to b.outer.members ≡ 1) × IsAlternatingTree (b.outer.members ++ places) bs

-- 1 where a set holds both vertices, else 0.
abbrev pub one_if_both : ℕ → ℕ → OddSetValue → ℕ
one_if_both a b s = min (count a s.members) (count b s.members)

-- The number of outer sets of the branches that hold both vertices.
abbrev pub outer_with_both : ℕ → ℕ → List BranchValue → ℕ
outer_with_both a b bs = sum_over (one_if_both a b) (flat_map outer_sets bs)

-- An augmenting path can begin: the edge leads from an outer set of the tree to an unmatched set
-- beside it.
pub record CanAugment (met : OddSetValue) (link : TightEdge) (root : OddSetValue)
    (tree : List BranchValue) : Type 0 where
  pub grown : IsAlternatingTree root.members tree
  pub from : 1 ≤ count link.from (outer_members root.members tree)
  pub to : count link.to met.members ≡ 1
  pub once : (x : ℕ) → count x met.members + count x (outer_members root.members tree)
      + count x (inner_members tree) ≤ 1

-- The result of augmenting: all sets of the tree and the unmatched set are matched, after the
-- matches before.
pub record Augments (root met : OddSetValue) (link : TightEdge) (tree : List BranchValue)
    (old new : List MatchValue) : Type 0 where
  pub joined : Each IsMatch old → Each IsMatch new
  pub firm : (d : TableValue) (h : ℕ → ℕ) → IsTight d h link → IsSoundSet d h root
      → IsSoundSet d h met
      → Each (IsSoundBranch d h) tree →
      Each (IsSoundMatch d h) old → Each (IsSoundMatch d h) new
  pub places : (x : ℕ) → count x (match_members new) ≡
      count x (match_members old) + count x met.members + count x (outer_members root.members tree)
      + count x (inner_members tree)
  pub sums : (F : List DualSet → ℕ) → IsAdditive F →
      F (match_dual_sets new) ≡ F (match_dual_sets old) + F (dual_sets met) + F (dual_sets root)
      + F (branch_dual_sets tree)

-- One step of augmenting. A match is made at the last branch, and augmenting the remaining branches
-- completes the path.
pub record PairsBranch (hand : OddSetValue) (way : TightEdge) (b : BranchValue) (c : MatchValue)
    (next : OddSetValue) (on : TightEdge) : Type 0 where
  pub can : (root : OddSetValue) (bs : List BranchValue) → CanAugment hand way root (bs ++ b ∷ [])
      → CanAugment next on root bs
  pub does : (root : OddSetValue) (bs : List BranchValue) (old new : List MatchValue)
      → CanAugment hand way root (bs ++ b ∷ []) → Augments root next on bs (old ++ c ∷ []) new
      → Augments root hand way (bs ++ b ∷ []) old new

-- A match as a branch of the tree, below an outer set by the edge `up`.
abbrev pub branch_by_edge : TightEdge → MatchValue → BranchValue
branch_by_edge up c =
    if nat_lt 0 (count up.to c.first.members)
    then record { up = up; inner = c.first; pair = c.link; outer = c.second }
    else record { up = up; inner = c.second; pair = reversed_edge c.link; outer = c.first }

-- One match is removed from a list, that which holds the vertex.
pub record RemovesMatch (place : ℕ) (old new : List MatchValue) (c : MatchValue) : Type 0 where
  pub before : List MatchValue
  pub after : List MatchValue
  pub was : old ≡ before ++ c ∷ after
  pub now : new ≡ before ++ after
  pub here : 1 ≤ count place c.first.members + count place c.second.members

-- The number of outer sets, the root among them, that hold both vertices.
abbrev pub count_holding_both : ℕ → ℕ → OddSetValue → List BranchValue → ℕ
count_holding_both a b root tree = one_if_both a b root + outer_with_both a b tree
