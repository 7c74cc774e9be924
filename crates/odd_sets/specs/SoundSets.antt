-- Odd sets and edges that are tight, where h gives the height of each vertex over all sets.
use Rattle.std.specs.Prelude.{◌≡◌, ℕ, ◌+◌, ◌*◌, ◌%◌, ◌≤◌}
use Rattle.odd_sets.specs.TableValue.{TableValue}
use Rattle.odd_sets.specs.Tables.{entry}
use Rattle.odd_sets.specs.Lists.{Each}
use Rattle.odd_sets.specs.DualSets.{OddSetValue, dual_sets, count, height, slack_rows_of, IsOddSet, AreTightInside}
use Rattle.odd_sets.specs.SlackRows.{IsSlackRow}
use Rattle.odd_sets.specs.declared.odd_set.TightEdge.{TightEdge}
use Rattle.odd_sets.specs.Values.{BranchValue, MatchValue, PartValue}

-- The distances of a table don't depend on the order of the vertices.
abbrev pub IsSymmetric : TableValue → Type 0
IsSymmetric d = (a b : ℕ) → entry d a b ≡ entry d b a

-- An edge is tight: the heights of its ends add up to twice its distance.
abbrev pub IsTight : TableValue → (ℕ → ℕ) → TightEdge → Type 0
IsTight d h l = 2 * entry d l.from l.to ≡ h l.from + h l.to

-- A sound set: blossom edges are tight, slack rows are right, and it alone makes the heights of its
-- members. All heights are even or all are odd.
pub record IsSoundSet (d : TableValue) (h : ℕ → ℕ) (s : OddSetValue) : Type 0 where
  pub kept : IsOddSet s
  pub paid : AreTightInside d s.blossom_edges
  pub near : Each (IsSlackRow d) (slack_rows_of s)
  pub local : (x : ℕ) → 1 ≤ count x s.members → height x (dual_sets s) ≡ h x
  pub even : (x y : ℕ) → 1 ≤ count x s.members → 1 ≤ count y s.members → (h x + h y) % 2 ≡ 0

-- A sound part: a sound set, and a tight edge to the part after it.
pub record IsSoundPart (d : TableValue) (h : ℕ → ℕ) (p : PartValue) : Type 0 where
  pub next : IsTight d h p.next
  pub odd_set : IsSoundSet d h p.odd_set

-- A sound match: two sound sets and a tight edge.
pub record IsSoundMatch (d : TableValue) (h : ℕ → ℕ) (c : MatchValue) : Type 0 where
  pub link : IsTight d h c.link
  pub first : IsSoundSet d h c.first
  pub second : IsSoundSet d h c.second

-- A sound branch: two sound sets and two tight edges.
pub record IsSoundBranch (d : TableValue) (h : ℕ → ℕ) (b : BranchValue) : Type 0 where
  pub up : IsTight d h b.up
  pub pair : IsTight d h b.pair
  pub inner : IsSoundSet d h b.inner
  pub outer : IsSoundSet d h b.outer
