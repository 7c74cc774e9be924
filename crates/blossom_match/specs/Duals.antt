-- The change of the duals of a tree: those of outer sets rise and those of inner sets fall.
use Rattle.std.specs.Prelude.{◌≡◌, ℕ, ◌+◌, ◌-◌, ◌*◌, ◌^◌, ◌<◌, ◌≤◌, List, length, map, slice_index}
use Rattle.odd_sets.specs.DualSets.{OddSetValue, count, with_dual}
use Rattle.odd_sets.specs.Trees.{inner_members, outer_members}
use Rattle.odd_sets.specs.Heights.{CanFall, CanRise, HasCells}
use Rattle.blossom_match.specs.Searches.{stored_height, search_size, IsStepReady, IsSearch}
use Rattle.blossom_match.specs.LeastChanges.{IsLeastChange, CanSearch}
use Rattle.odd_sets.specs.TableValue.{TableValue}
use Rattle.odd_sets.specs.Tables.{IsMetric}
use Rattle.odd_sets.specs.Values.{BranchValue, SearchValue}
use Rattle.odd_sets.specs.declared.branches.Branch.{Branch}
use Rattle.blossom_match.specs.declared.least.DualChange.{DualChange}

-- A branch whose outer dual has risen and whose inner dual has fallen.
abbrev pub changed_by : ℕ → BranchValue → BranchValue
changed_by by b = record {
  up = b.up;
  inner = with_dual (b.inner.dual - by) b.inner;
  pair =
      b.pair;
  outer = with_dual (b.outer.dual + by) b.outer;
}

-- All branches of a tree with their duals changed.
abbrev pub all_changed : ℕ → List BranchValue → List BranchValue
all_changed by bs = map (changed_by by) bs

-- The duals of a branch can change: the outer one fits 32 bits, and the inner one is at least the
-- change.
pub record CanChange (by : ℕ) (b : BranchValue) : Type 0 where
  pub fits : b.outer.dual + by < 2 ^ 32
  pub wide : by ≤ b.inner.dual

-- A branch whose handles have their duals changed.
abbrev pub changed_branch : ℕ → Branch → Branch
changed_branch by b = record {
  up = b.up;
  inner = record { key = b.inner.key; dual = b.inner.dual - by };
  pair = b.pair;
  outer = record { key = b.outer.key; dual = b.outer.dual + by };
}

-- The duals of a branch's handles can change.
pub record CanChangeBranch (by : ℕ) (b : Branch) : Type 0 where
  pub fits : b.outer.dual + by < 2 ^ 32
  pub wide : by ≤ b.inner.dual

-- The heights of outer vertices rise, and those of inner vertices fall.
abbrev pub ChangesHeights : ℕ → OddSetValue → List BranchValue → List ℕ → List ℕ → Type 0
ChangesHeights by root tree old new =
    (x : ℕ) → slice_index new x + by * count x (inner_members tree)
    ≡ slice_index old x + by * count x (outer_members root.members tree)

-- The heights of a tree can change: each vertex has a cell, outer ones can rise, and inner ones can
-- fall.
pub record CanChangeHeights (by : ℕ) (root : OddSetValue) (tree : List BranchValue)
    (heights : List ℕ) : Type 0 where
  pub cells : HasCells (λ x. count x (outer_members root.members tree)
      + count x (inner_members tree)) heights
  pub rise : CanRise (λ x. by * count x (outer_members root.members tree)) heights
  pub fall : CanFall (λ x. by * count x (inner_members tree)) heights

-- A search with all its duals and heights changed.
pub record ChangesDuals (by : ℕ) (s r : SearchValue) : Type 0 where
  pub heights : ChangesHeights by s.root s.tree s.heights r.heights
  pub size : length r.heights ≡ length s.heights
  pub root : r.root ≡ with_dual (s.root.dual + by) s.root
  pub tree : r.tree ≡ all_changed by s.tree
  pub rest : r.rest ≡ s.rest
  pub free : r.free ≡ s.free

-- A search and a change of duals after which no slack is negative.
pub record CanAdjust (s : SearchValue) (c : DualChange) : Type 0 where
  pub t : TableValue
  pub metric : IsMetric t
  pub can : CanSearch t s
  pub bounds : IsLeastChange t (stored_height s) s c

-- A search in which the step of a change can be made.
pub record CanStepAfter (t : TableValue) (c : DualChange) (r : SearchValue) : Type 0 where
  pub search : IsSearch t (stored_height r) r
  pub ready : IsStepReady t (stored_height r) r c.step
  pub size : length r.heights ≡ t.places

-- After a change of duals its step can be made.
pub record Adjusts (s : SearchValue) (c : DualChange) (r : SearchValue) : Type 0 where
  pub search : (t : TableValue) → IsMetric t → CanSearch t s → IsLeastChange t (stored_height s) s c
      → CanStepAfter t c r
  pub size : search_size r ≡ search_size s
  pub free : r.free ≡ s.free
