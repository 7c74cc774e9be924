-- Shrinking: an edge between two outer sets closes a blossom, which becomes one outer set.
use Rattle.std.specs.Prelude.{◌≡◌, ℕ, ◌+◌, ◌*◌, ◌%◌, ◌<◌, ◌≤◌, List, [], ◌∷◌, ◌++◌, length, reverse}
use Rattle.odd_sets.specs.TableValue.{TableValue}
use Rattle.odd_sets.specs.Lists.{Each}
use Rattle.odd_sets.specs.DualSets.{IsAdditive, DualSet, OddSetValue, dual_sets, count}
use Rattle.odd_sets.specs.Blossoms.{members_in, dual_sets_in, AreOddSets}
use Rattle.odd_sets.specs.BlossomSlacks.{blossom_set, HaveSlacks}
use Rattle.odd_sets.specs.Folds.{FoldsOuters}
use Rattle.odd_sets.specs.SoundSets.{IsSoundBranch, IsSoundPart, IsSoundSet, IsSymmetric, IsTight}
use Rattle.odd_sets.specs.Trees.{outer_with_both, one_if_both, branch_dual_sets, inner_dual_sets, outer_members, inner_members, IsAlternatingTree}
use Rattle.odd_sets.specs.declared.odd_set.TightEdge.{TightEdge}
use Rattle.odd_sets.specs.Values.{BranchValue, PartValue}

-- A chain of parts, entered by the edge `way`, whose last edge leads to the vertex `to`.
abbrev pub IsChainTo : TightEdge → List PartValue → ℕ → Type 0
IsChainTo way [] to = way.to ≡ to
IsChainTo way (p ∷ ps) to = (count way.to p.odd_set.members ≡ 1)
    × (count p.next.from p.odd_set.members ≡ 1)
    × IsChainTo p.next ps to

-- A part made of a set and the edge from it.
abbrev pub part_with_edge : OddSetValue → TightEdge → PartValue
part_with_edge s link = record { odd_set = s; next = link }

-- A branch made of its fields.
abbrev pub branch_of : TightEdge → OddSetValue → TightEdge → OddSetValue → BranchValue
branch_of up inner pair outer = record { up = up; inner = inner; pair = pair; outer = outer }

-- The blossom of a chain and the set `top` that both its ends are in.
abbrev pub closed_blossom : ℕ → OddSetValue → TightEdge → List PartValue → OddSetValue
closed_blossom key top way chain = blossom_set key (record { odd_set = top; next = way } ∷ chain)

-- A chain that begins and ends at the set `top`, and closes an odd cycle with it.
pub record CanClose (top : OddSetValue) (way : TightEdge) (chain : List PartValue) (to : ℕ) : Type 0
  where
    pub leads : IsChainTo way chain to
    pub from : count way.from top.members ≡ 1
    pub back : count to top.members ≡ 1
    pub even : length chain % 2 ≡ 0
    pub some : 1 ≤ length chain
    pub kept : AreOddSets chain
    pub rows : HaveSlacks (length top.near) (record { odd_set = top; next = way } ∷ chain)

-- A search can shrink by an edge: the edge is tight, and leads between two outer sets of a sound
-- tree.
pub record CanShrink (link : TightEdge) (root : OddSetValue) (tree : List BranchValue) : Type 0
  where
    pub grown : IsAlternatingTree root.members tree
    pub from : 1 ≤ count link.from (outer_members root.members tree)
    pub to : 1 ≤ count link.to (outer_members root.members tree)
    pub apart : one_if_both link.from link.to root + outer_with_both link.from link.to tree ≡ 0
    pub once : (x : ℕ) → count x (outer_members root.members tree) + count x (inner_members tree)
        ≤ 1
    pub t : TableValue
    pub h : ℕ → ℕ
    pub within : (x : ℕ)
        → 1 ≤ count x (outer_members root.members tree) + count x (inner_members tree)
        → x < t.places
    pub symmetric : IsSymmetric t
    pub tight : IsTight t h link
    pub sound : IsSoundSet t h root
    pub firm : Each (IsSoundBranch t h) tree

-- The result of shrinking: the blossom that the edge closes is one outer set, with dual 0.
pub record Shrinks (blossom : OddSetValue) (link : TightEdge) (root new_root : OddSetValue)
    (old new : List BranchValue) : Type 0 where
  pub grown : IsAlternatingTree new_root.members new
  pub places : (x : ℕ) → count x (outer_members new_root.members new) + count x (inner_members new)
      ≡ count x (outer_members root.members old) + count x (inner_members old)
  pub folds : FoldsOuters blossom root new_root old new
  pub sums : (F : List DualSet → ℕ) → IsAdditive F →
      F (dual_sets new_root) + F (branch_dual_sets new)
      ≡ F (dual_sets root) + F (branch_dual_sets old)
      + F (record { key = blossom.key; members = blossom.members; dual = 0 } ∷ [])
  pub fewer : length (inner_dual_sets new) < length (inner_dual_sets old)
  pub firm : (d : TableValue) (h : ℕ → ℕ) → IsSymmetric d → IsTight d h link → IsSoundSet d h root
      → Each (IsSoundBranch d h) old →
      IsSoundSet d h new_root × Each (IsSoundBranch d h) new

-- The loop invariant of shrinking: the tree that is left, the chain, and the branches set aside.
pub record IsOpenChain (link : TightEdge) (root : OddSetValue) (tree left : List BranchValue)
    (chain : List PartValue)
    (aside : List BranchValue) (way : TightEdge) (to : ℕ) : Type 0 where
  pub grown : IsAlternatingTree root.members left
  pub leads : IsChainTo way chain to
  pub from : 1 ≤ count way.from (outer_members root.members left)
  pub back : 1 ≤ count to (outer_members root.members left)
  pub even : length chain % 2 ≡ 0
  pub begun : length chain ≡ 0 → (way.from ≡ link.from) × (to ≡ link.to)
  pub apart : one_if_both link.from link.to root + outer_with_both link.from link.to left ≡ 0
  pub kept : AreOddSets chain
  pub hung : IsAlternatingTree (members_in chain ++ outer_members root.members left) (reverse aside)
  pub outers : (a x : ℕ) → count a (members_in chain) ≡ 0 → outer_with_both a x left
      + outer_with_both a x (reverse aside) ≡ outer_with_both a x tree
  pub once : (x : ℕ) → count x (outer_members root.members tree) + count x (inner_members tree) ≤ 1
  pub places : (x : ℕ) → count x (outer_members root.members left) + count x (inner_members left)
      + count x (members_in chain)
      + count x (outer_members [] (reverse aside)) + count x (inner_members (reverse aside))
      ≡ count x (outer_members root.members tree) + count x (inner_members tree)
  pub sums : (F : List DualSet → ℕ) → IsAdditive F
      → F (branch_dual_sets left) + F (dual_sets_in chain)
      + F (branch_dual_sets (reverse aside)) ≡ F (branch_dual_sets tree)
  pub fewer : 2 * (length (inner_dual_sets left) + length (inner_dual_sets (reverse aside)))
      + length chain
      ≤ 2 * length (inner_dual_sets tree)
  pub firm : (d : TableValue) (h : ℕ → ℕ) → IsSymmetric d → IsTight d h link
      → Each (IsSoundBranch d h) tree →
      Each (IsSoundBranch d h) left × Each (IsSoundBranch d h) (reverse aside)
      × Each (IsSoundPart d h) chain
      × IsTight d h way
