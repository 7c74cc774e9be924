-- The slacks from the outer vertices to each vertex, in halves of a step. A slack here is twice the
-- distance less the height of the outer vertex; the height of the far vertex is not yet taken. The
-- array of these slacks is named `reach`.
use Rattle.std.specs.Prelude.{◌≡◌, ℕ, ◌-◌, ◌*◌, ◌<◌, ◌≤◌, ◌⊎◌, List, [], ◌++◌, length, slice_index}
use Rattle.odd_sets.specs.Lists.{Each}
use Rattle.odd_sets.specs.DualSets.{OddSetValue, count}
use Rattle.odd_sets.specs.SoundSets.{IsSoundBranch, IsSoundSet}
use Rattle.odd_sets.specs.Trees.{outer_members, count_holding_both}
use Rattle.blossom_match.specs.Searches.{CanStepAt}
use Rattle.odd_sets.specs.TableValue.{TableValue}
use Rattle.odd_sets.specs.Tables.{entry}
use Rattle.odd_sets.specs.declared.table.TheConstants.{FAR}
use Rattle.blossom_match.specs.declared.search.SearchStep.{SearchStep}
use Rattle.odd_sets.specs.Values.{BranchValue, SearchValue}

-- The slack from a to x, before the height of x is taken.
abbrev pub slack_from : TableValue → List ℕ → ℕ → ℕ → ℕ
slack_from t hs a x = 2 * entry t a x - slice_index hs a

-- A value is the slack from one of the given vertices to x.
pub record IsSlackFromOne (t : TableValue) (hs xs : List ℕ) (x left : ℕ) : Type 0 where
  pub a : ℕ
  pub here : 1 ≤ count a xs
  pub exact : left ≡ slack_from t hs a x

-- Each cell outside a set becomes the minimum of its old value and of the slacks from the set; the
-- cells of the set stay.
pub record LowersBySet (t : TableValue) (hs xs old new : List ℕ) : Type 0 where
  pub size : length new ≡ length old
  pub kept : (x : ℕ) → x < t.places → 1 ≤ count x xs → slice_index new x ≡ slice_index old x
  pub less : (x : ℕ) → x < t.places → slice_index new x ≤ slice_index old x
  pub least : (a x : ℕ) → 1 ≤ count a xs → x < t.places → count x xs ≡ 0
      → slice_index new x ≤ slack_from t hs a x
  pub is : (x : ℕ) → x < t.places → count x xs ≡ 0
      → (slice_index new x ≡ slice_index old x) ⊎ IsSlackFromOne t hs xs x (slice_index new x)

-- A value is the slack to x from an outer vertex that shares no outer set with x.
pub record IsOuterSlack (t : TableValue) (hs : List ℕ) (root : OddSetValue)
    (tree : List BranchValue)
    (x left : ℕ) : Type 0 where
  pub a : ℕ
  pub here : 1 ≤ count a (outer_members root.members tree)
  pub apart : count_holding_both a x root tree ≡ 0
  pub exact : left ≡ slack_from t hs a x

-- Of two vertices one has a cell that is at most the slack from the other.
abbrev pub ReachesEither : TableValue → List ℕ → List ℕ → ℕ → ℕ → Type 0
ReachesEither t hs reach a b = (slice_index reach b ≤ slack_from t hs a b)
    ⊎ (slice_index reach a ≤ slack_from t hs b a)

-- Each cell has a slack from an outer vertex of another set, or FAR: the least one at a vertex that
-- isn't outer. Between two outer sets the cell of one end is enough.
pub record AreOuterSlacks (t : TableValue) (hs : List ℕ) (root : OddSetValue)
    (tree : List BranchValue)
    (reach : List ℕ) : Type 0 where
  pub size : length reach ≡ t.places
  pub short : (x : ℕ) → x < t.places → slice_index reach x ≤ FAR
  pub least : (a x : ℕ) → 1 ≤ count a (outer_members root.members tree) → x < t.places
      → count x (outer_members root.members tree) ≡ 0 → slice_index reach x ≤ slack_from t hs a x
  pub both : (a b : ℕ) → 1 ≤ count a (outer_members root.members tree)
      → 1 ≤ count b (outer_members root.members tree) → a < t.places → b < t.places
      → count_holding_both a b root tree ≡ 0 → ReachesEither t hs reach a b
  pub is : (x : ℕ) → x < t.places
      → (slice_index reach x ≡ FAR) ⊎ IsOuterSlack t hs root tree x (slice_index reach x)

-- The array has the slacks from the outer vertices of a search.
abbrev pub AreSearchSlacks : TableValue → SearchValue → List ℕ → Type 0
AreSearchSlacks t s reach = AreOuterSlacks t s.heights s.root s.tree reach

-- The heights have a cell for each vertex of the table, and the outer vertices are different.
pub record HasOuterCells (t : TableValue) (hs : List ℕ) (root : OddSetValue)
    (tree : List BranchValue) : Type 0 where
  pub cells : length hs ≡ t.places
  pub within : (x : ℕ) → 1 ≤ count x (outer_members root.members tree) → x < t.places
  pub once : (x : ℕ) → count x (outer_members root.members tree) ≤ 1

-- The outer vertices are different, and the root and all branches are sound.
pub record HasSoundOuters (t : TableValue) (hs : List ℕ) (root : OddSetValue)
    (tree : List BranchValue) : Type 0 where
  pub once : (x : ℕ) → count x (outer_members root.members tree) ≤ 1
  pub sound : IsSoundSet t (λ x. slice_index hs x) root
  pub firm : Each (IsSoundBranch t (λ x. slice_index hs x)) tree

-- The outer sets of a search are sound and disjoint.
abbrev pub SearchHasSoundOuters : TableValue → SearchValue → Type 0
SearchHasSoundOuters t s = HasSoundOuters t s.heights s.root s.tree

-- The slack row of a set has n cells.
abbrev pub HasSlacks : ℕ → OddSetValue → Type 0
HasSlacks n s = length s.near ≡ n

-- For some table the outer sets of a search are sound, and the array has a cell for each vertex.
pub record HasSlackCells (s : SearchValue) (cells : List ℕ) : Type 0 where
  pub t : TableValue
  pub can : SearchHasSoundOuters t s
  pub size : length cells ≡ t.places

-- The array has the least slacks from the root alone.
abbrev pub ComputesRootSlacks : OddSetValue → List ℕ → Type 0
ComputesRootSlacks root new = (t : TableValue) (hs : List ℕ) → HasSoundOuters t hs root []
    → length new ≡ t.places → AreOuterSlacks t hs root [] new

-- The slacks from the outer sets of the added branches are merged into the array.
abbrev pub AddsOuterSlacks : List BranchValue → List ℕ → List ℕ → Type 0
AddsOuterSlacks added old new = (t : TableValue) (hs : List ℕ) (root : OddSetValue)
    (tree : List BranchValue)
    → ((x : ℕ) → count x (outer_members root.members (tree ++ added)) ≤ 1)
    → Each (IsSoundBranch t (λ x. slice_index hs x)) added → AreOuterSlacks t hs root tree old
    → AreOuterSlacks t hs root (tree ++ added) new

-- A step leads from the slacks of one search to those of the next.
abbrev pub CarriesSlacks : SearchStep → SearchValue → SearchValue → List ℕ → List ℕ → Type 0
CarriesSlacks step s r old new = (t : TableValue) → CanStepAt t s step → AreSearchSlacks t s old
    → AreSearchSlacks t r new
