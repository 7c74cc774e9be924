-- The values of sets and searches in contracts: each with all that is inside it.
use Rattle.std.specs.Prelude.{ℕ, List}
use Rattle.odd_sets.specs.DualSets.{OddSetValue}
use Rattle.odd_sets.specs.declared.odd_set.TightEdge.{TightEdge}

-- A part of a blossom, and the edge to the part after it.
pub record PartValue : Type 0 where
  pub odd_set : OddSetValue
  pub next : TightEdge

-- Two matched sets, and the edge from the first to the second.
pub record MatchValue : Type 0 where
  pub first : OddSetValue
  pub second : OddSetValue
  pub link : TightEdge

-- A branch of the alternating tree: an inner set with the edge from its parent, and the outer set
-- that it is matched with.
pub record BranchValue : Type 0 where
  pub up : TightEdge
  pub inner : OddSetValue
  pub pair : TightEdge
  pub outer : OddSetValue

-- The state of a search: the root, the tree, the matches outside the tree, the free vertices, and
-- the height of each vertex.
pub record SearchValue : Type 0 where
  pub root : OddSetValue
  pub tree : List BranchValue
  pub rest : List MatchValue
  pub free : List ℕ
  pub heights : List ℕ

-- A partial matching: matched sets, free vertices, and the height of each vertex.
pub record PartialMatchingValue : Type 0 where
  pub matches : List MatchValue
  pub free : List ℕ
  pub heights : List ℕ
