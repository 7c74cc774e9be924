-- Masks over all vertices: a mask is 0 at the vertices that it shows, and FAR at all others.
use Rattle.std.specs.Prelude.{◌≡◌, ℕ, ◌<◌, ◌≤◌, List, ◌++◌, length, max, slice_index}
use Rattle.odd_sets.specs.DualSets.{count}
use Rattle.odd_sets.specs.MatchedSets.{match_members}
use Rattle.odd_sets.specs.SlackRows.{lowered_slack}
use Rattle.blossom_match.specs.Candidates.{IsBestCandidate}
use Rattle.odd_sets.specs.TableValue.{TableValue}
use Rattle.odd_sets.specs.Values.{BranchValue, SearchValue}
use Rattle.blossom_match.specs.declared.least.Target.{Target}
use Rattle.blossom_match.specs.declared.least.Kind.TheVariants as kind
use Rattle.odd_sets.specs.declared.table.TheConstants.{FAR}

-- A mask shows the given vertices alone.
pub record IsMask (places mask : List ℕ) : Type 0 where
  pub within : (x : ℕ) → 1 ≤ count x places → x < length mask
  pub on : (x : ℕ) → 1 ≤ count x places → slice_index mask x ≡ 0
  pub off : (x : ℕ) → x < length mask → count x places ≡ 0 → slice_index mask x ≡ FAR

-- A mask shows the vertices of a search's matches outside the tree.
pub record IsSearchMask (t : TableValue) (s : SearchValue) (mask : List ℕ) : Type 0 where
  pub size : length mask ≡ t.places
  pub masks : IsMask (match_members s.rest) mask

-- The vertices of a branch.
abbrev pub branch_members : BranchValue → List ℕ
branch_members b = b.inner.members ++ b.outer.members

-- The slack to a vertex, or FAR where the mask doesn't show the vertex.
abbrev pub masked_slack : List ℕ → List ℕ → List ℕ → ℕ → ℕ
masked_slack hs reach mask x =
    max (lowered_slack (slice_index hs x) (slice_index reach x)) (slice_index mask x)

-- A slack is that of some vertex under the mask.
pub record IsMaskedSlack (hs reach mask : List ℕ) (slack : ℕ) : Type 0 where
  pub place : ℕ
  pub within : place < length reach
  pub exact : slack ≡ masked_slack hs reach mask place

-- The lesser of a candidate and the best of the vertices that the mask shows.
abbrev pub IsBestShown : List ℕ → List ℕ → List ℕ → Target → Target → Type 0
IsBestShown hs reach mask old new =
    (places : List ℕ) → IsMask places mask → IsBestCandidate hs reach kind.Grow places old new
