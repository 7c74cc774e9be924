-- A set that takes the place of some outer sets, as a blossom does that closes.
use Rattle.std.specs.Prelude.{◌≡◌, ℕ, ◌≤◌, List, length}
use Rattle.odd_sets.specs.Lists.{Each}
use Rattle.odd_sets.specs.DualSets.{OddSetValue, count}
use Rattle.odd_sets.specs.SlackRows.{MergesSlacks, SetsCells}
use Rattle.odd_sets.specs.SoundSets.{IsSoundBranch, IsSoundSet}
use Rattle.odd_sets.specs.Trees.{one_if_both, count_holding_both}
use Rattle.odd_sets.specs.TableValue.{TableValue}
use Rattle.odd_sets.specs.declared.table.TheConstants.{FAR}
use Rattle.odd_sets.specs.Values.{BranchValue}

-- A set is an outer set of the new tree, and the outer sets that hold none of its vertices are
-- those of the old one.
pub record FoldsOuters (set root new_root : OddSetValue) (old new : List BranchValue) : Type 0 where
  pub same : (a x : ℕ) → count a set.members ≡ 0
      → count_holding_both a x new_root new ≡ count_holding_both a x root old
  pub holds : (a x : ℕ) → one_if_both a x set ≤ count_holding_both a x new_root new
  pub apart : (a x : ℕ) → 1 ≤ count a set.members → count x set.members ≡ 0
      → count_holding_both a x new_root new ≡ 0
  pub sound : (t : TableValue) (h : ℕ → ℕ) → IsSoundSet t h new_root
      → Each (IsSoundBranch t h) new → IsSoundSet t h set

-- The row of a set is merged into an array, and the cells of the set are FAR.
pub record FoldsCells (set : OddSetValue) (old new : List ℕ) : Type 0 where
  pub between : List ℕ
  pub size : length between ≡ length old
  pub merged : MergesSlacks set.near set.dual old between
  pub cleared : SetsCells FAR set.members between new
