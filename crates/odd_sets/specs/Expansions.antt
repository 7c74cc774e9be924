-- Expanding: an inner blossom of dual 0 is replaced by its parts, as branches and matches.
use Rattle.std.specs.Prelude.{◌≡◌, ℕ, ◌+◌, ◌%◌, ◌<◌, ◌≤◌, ◌⊎◌, List, [], ◌∷◌, ◌++◌, length, drop}
use Rattle.odd_sets.specs.TableValue.{TableValue}
use Rattle.odd_sets.specs.Lists.{Each}
use Rattle.odd_sets.specs.DualSets.{IsAdditive, DualSet, OddSetValue, dual_sets, count}
use Rattle.odd_sets.specs.Blossoms.{reversed_edge, members_in, dual_sets_in, FirstPartHolds, IsBlossom, IsPartPath}
use Rattle.odd_sets.specs.MatchedSets.{match_members, match_dual_sets, IsMatch}
use Rattle.odd_sets.specs.SoundSets.{IsSoundBranch, IsSoundMatch, IsSoundPart, IsSoundSet, IsSymmetric, IsTight}
use Rattle.odd_sets.specs.Trees.{outer_members, inner_members, branch_dual_sets, inner_dual_sets, IsAlternatingTree}
use Rattle.odd_sets.specs.declared.odd_set.TightEdge.{TightEdge}
use Rattle.odd_sets.specs.Values.{BranchValue, MatchValue, PartValue}

-- A path of parts reversed, before the parts `told`. Each part takes the edge before it, in the
-- other direction.
abbrev pub reversed_onto : TightEdge → List PartValue → List PartValue → List PartValue
reversed_onto link [] told = told
reversed_onto link (p ∷ ps) told = reversed_onto p.next ps
    (record { odd_set = p.odd_set; next = reversed_edge link } ∷ told)

-- The last edge of a path of parts that begins with the given edge.
abbrev pub last_edge_of : TightEdge → List PartValue → TightEdge
last_edge_of link [] = link
last_edge_of link (p ∷ ps) = last_edge_of p.next ps

-- A cycle of parts reversed, with the first part kept first.
abbrev pub reversed_blossom : List PartValue → List PartValue
reversed_blossom [] = []
reversed_blossom (p ∷ ps) = record {
  odd_set = p.odd_set;
  next = reversed_edge
      (last_edge_of p.next ps);
}
    ∷ reversed_onto p.next ps []

-- A part at an even index holds a vertex.
abbrev pub HoldsAtEvenIndex : ℕ → List PartValue → Type 0
HoldsAtEvenIndex x [] = ⊥
HoldsAtEvenIndex x (p ∷ []) = 1 ≤ count x p.odd_set.members
HoldsAtEvenIndex x (p ∷ q ∷ ps) = (1 ≤ count x p.odd_set.members) ⊎ HoldsAtEvenIndex x ps

-- A blossom rotated to the part that is entered, and oriented so that the part that is left has an
-- even index.
pub record IsEvenlyOriented (entry exit : ℕ) (old new : List PartValue) : Type 0 where
  pub blossom : IsBlossom new
  pub first : FirstPartHolds entry new
  pub last : HoldsAtEvenIndex exit new
  pub places : (x : ℕ) → count x (members_in new) ≡ count x (members_in old)
  pub sums : (F : List DualSet → ℕ) → IsAdditive F → F (dual_sets_in new) ≡ F (dual_sets_in old)
  pub firm : (d : TableValue) (h : ℕ → ℕ) → IsSymmetric d → Each (IsSoundPart d h) old
      → Each (IsSoundPart d h) new

-- An edge leads into the first part, and each part's edge to the next.
abbrev pub EdgeLeadsInto : TightEdge → List PartValue → Type 0
EdgeLeadsInto way [] = ⊥
EdgeLeadsInto way (p ∷ ps) = (count way.to p.odd_set.members ≡ 1) × IsPartPath p ps

-- A blossom can be split along the tree: an edge leads into it, and a matched edge leads out of a
-- part at an even index.
pub record CanSplitBlossom (root : OddSetValue) (tree : List BranchValue) (blossom : List PartValue)
    (way pair : TightEdge) (outer : OddSetValue) : Type 0 where
  pub grown : IsAlternatingTree root.members tree
  pub from : 1 ≤ count way.from (outer_members root.members tree)
  pub into : EdgeLeadsInto way blossom
  pub exit : HoldsAtEvenIndex pair.from blossom
  pub odd : length blossom % 2 ≡ 1
  pub to : count pair.to outer.members ≡ 1
  pub once : (x : ℕ) → count x (members_in blossom) ≤ 1

-- The result of splitting a blossom: the parts up to the matched edge are branches, and the others
-- are matches.
pub record SplitsBlossom (root : OddSetValue) (old : List BranchValue) (blossom : List PartValue)
    (way pair : TightEdge) (outer : OddSetValue) (new : List BranchValue)
    (cs : List MatchValue) : Type 0 where
  pub grown : IsAlternatingTree root.members new
  pub joined : Each IsMatch cs
  pub places : (x : ℕ) → count x (outer_members root.members new) + count x (inner_members new)
      + count x (match_members cs) ≡
      count x (outer_members root.members old) + count x (inner_members old)
      + count x (members_in blossom) + count x outer.members
  pub more : (x : ℕ) → count x (outer_members root.members old) + count x outer.members
      ≤ count x (outer_members root.members new)
  pub added : List BranchValue
  pub last : BranchValue
  pub is : new ≡ old ++ (added ++ last ∷ [])
  pub same : last.outer ≡ outer
  pub sums : (F : List DualSet → ℕ) → IsAdditive F
      → F (branch_dual_sets new) + F (match_dual_sets cs)
      ≡ F (branch_dual_sets old) + F (dual_sets_in blossom) + F (dual_sets outer)
  pub fewer : length (inner_dual_sets new) + length (match_dual_sets cs)
      ≤ length (inner_dual_sets old) + length (dual_sets_in blossom)
  pub firm : (d : TableValue) (h : ℕ → ℕ) → Each (IsSoundBranch d h) old → IsTight d h way
      → IsTight d h pair → Each (IsSoundPart d h) blossom → IsSoundSet d h outer →
      Each (IsSoundBranch d h) new × Each (IsSoundMatch d h) cs

-- The first branch has an inner blossom of dual 0.
abbrev pub FirstCanExpand : List BranchValue → Type 0
FirstCanExpand [] = ⊥
FirstCanExpand (b ∷ bs) = (b.inner.dual ≡ 0) × (0 < length b.inner.below)

-- The inner set of the branch at an index is a blossom of dual 0.
pub record CanExpand (root : OddSetValue) (tree : List BranchValue) (at : ℕ) : Type 0 where
  pub grown : IsAlternatingTree root.members tree
  pub once : (x : ℕ) → count x (outer_members root.members tree) + count x (inner_members tree) ≤ 1
  pub apart : FirstCanExpand (drop at tree)

-- Branches are inserted before the branch at an index, whose outer set stays.
pub record InsertsBranches (at : ℕ) (old new : List BranchValue) : Type 0 where
  pub before : List BranchValue
  pub branch : BranchValue
  pub added : List BranchValue
  pub last : BranchValue
  pub later : List BranchValue
  pub was : old ≡ before ++ branch ∷ later
  pub now : new ≡ before ++ (added ++ last ∷ later)
  pub same : last.outer ≡ branch.outer
  pub size : length before ≡ at

-- The result of expanding: the parts of the inner set under a key are branches and matches.
pub record Expands (key : ℕ) (root : OddSetValue) (old new : List BranchValue)
    (was now : List MatchValue) : Type 0 where
  pub grown : IsAlternatingTree root.members new
  pub more : List MatchValue
  pub rest : now ≡ was ++ more
  pub joined : Each IsMatch was → Each IsMatch now
  pub places : (x : ℕ) → count x (outer_members root.members new) + count x (inner_members new)
      + count x (match_members now) ≡
      count x (outer_members root.members old) + count x (inner_members old)
      + count x (match_members was)
  pub blossom : List ℕ
  pub sums : (F : List DualSet → ℕ) → IsAdditive F
      → F (branch_dual_sets new) + F (match_dual_sets now)
      + F (record { key = key; members = blossom; dual = 0 } ∷ [])
      ≡ F (branch_dual_sets old) + F (match_dual_sets was)
  pub fewer : length (inner_dual_sets new) + length (match_dual_sets now)
      < length (inner_dual_sets old) + length (match_dual_sets was)
  pub firm : (d : TableValue) (h : ℕ → ℕ) → IsSymmetric d → Each (IsSoundBranch d h) old
      → Each (IsSoundMatch d h) was → Each (IsSoundBranch d h) new × Each (IsSoundMatch d h) now
