-- The slacks from a set to each vertex outside it, in halves of a step. A slack of a row is twice
-- the distance, less the duals inside the set. The set's own dual and the height of the far vertex
-- are not yet taken. A row has a cell for each vertex of the table. Rows are made with their set
-- and never change, whatever the duals do.
use Rattle.std.specs.Prelude.{◌≡◌, ℕ, ◌-◌, ◌*◌, ◌==◌, ◌<◌, ◌≤◌, List, length, map, min, nat_lt, slice_index, if◌then◌else◌}
use Rattle.std.specs.List.{range_with_len}
use Rattle.odd_sets.specs.DualSets.{SlackRow, count, height}
use Rattle.odd_sets.specs.TableValue.{TableValue}
use Rattle.odd_sets.specs.Tables.{entry}
use Rattle.odd_sets.specs.declared.table.TheConstants.{FAR}

-- A slack less a dual, at least 0; FAR stays FAR.
abbrev pub lowered_slack : ℕ → ℕ → ℕ
lowered_slack by left = if nat_lt left FAR then left - by else left

-- Each cell becomes the minimum of its old value and of the row's slack less the dual.
abbrev pub MergesSlacks : List ℕ → ℕ → List ℕ → List ℕ → Type 0
MergesSlacks near dual old new = (x : ℕ) → x < length near
    → slice_index new x ≡ min (lowered_slack dual (slice_index near x)) (slice_index old x)

-- The cells of the given vertices have the given value, and no other cell changes.
pub record SetsCells (left : ℕ) (places old new : List ℕ) : Type 0 where
  pub on : (x : ℕ) → 1 ≤ count x places → slice_index new x ≡ left
  pub off : (x : ℕ) → count x places ≡ 0 → slice_index new x ≡ slice_index old x

-- A value is the slack from some member of a row to x, less the duals of the sets inside.
pub record IsRowSlack (t : TableValue) (r : SlackRow) (x left : ℕ) : Type 0 where
  pub a : ℕ
  pub here : 1 ≤ count a r.members
  pub exact : left ≡ 2 * entry t a x - height a r.below

-- A row has the least slack of a member for each vertex outside the set, and FAR at the members.
pub record IsSlackRow (t : TableValue) (r : SlackRow) : Type 0 where
  pub size : length r.cells ≡ t.places
  pub own : (x : ℕ) → 1 ≤ count x r.members → x < t.places → slice_index r.cells x ≡ FAR
  pub short : (x : ℕ) → count x r.members ≡ 0 → x < t.places → slice_index r.cells x < FAR
  pub least : (a x : ℕ) → 1 ≤ count a r.members → count x r.members ≡ 0 → x < t.places
      → slice_index r.cells x ≤ 2 * entry t a x - height a r.below
  pub is : (x : ℕ) → count x r.members ≡ 0 → x < t.places → IsRowSlack t r x (slice_index r.cells x)

-- The slack from a single vertex to x.
abbrev pub vertex_slack : TableValue → ℕ → ℕ → ℕ
vertex_slack t place x = if x == place then FAR else 2 * entry t place x

-- The slack row of a single vertex.
abbrev pub vertex_slacks : TableValue → ℕ → List ℕ
vertex_slacks t place = map (vertex_slack t place) (range_with_len 0 t.places)
