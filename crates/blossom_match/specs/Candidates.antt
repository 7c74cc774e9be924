-- The vertex to which an edge becomes tight by the least change of duals.
use Rattle.std.specs.Prelude.{◌≡◌, ℕ, ◌-◌, ◌/◌, ◌<◌, ◌≤◌, ◌⊎◌, List, Option, Some, None, slice_index}
use Rattle.odd_sets.specs.DualSets.{OddSetValue, count}
use Rattle.odd_sets.specs.MatchedSets.{match_members}
use Rattle.odd_sets.specs.Trees.{outer_members, count_holding_both}
use Rattle.blossom_match.specs.LeastChanges.{step_of}
use Rattle.blossom_match.specs.OuterSlacks.{slack_from, HasOuterCells, IsSlackFromOne, AreOuterSlacks}
use Rattle.blossom_match.specs.Searches.{outer_vertices}
use Rattle.odd_sets.specs.TableValue.{TableValue}
use Rattle.odd_sets.specs.Values.{BranchValue, SearchValue}
use Rattle.blossom_match.specs.declared.least.Target.{Target}
use Rattle.blossom_match.specs.declared.least.DualChange.{DualChange}
use Rattle.blossom_match.specs.declared.least.Kind.{Kind}
use Rattle.blossom_match.specs.declared.least.Kind.TheVariants as kind
use Rattle.odd_sets.specs.declared.table.TheConstants.{FAR}

-- The change of duals that uses up a slack. Between two outer sets it is half the slack, as both
-- ends rise.
abbrev pub change_of : Kind → ℕ → ℕ
change_of kind.Augment slack = slack
change_of kind.Grow slack = slack
change_of kind.Shrink slack = slack / 2

-- The change of duals that uses up the slack to a vertex.
abbrev pub change_at : List ℕ → List ℕ → Kind → ℕ → ℕ
change_at hs reach k b = change_of k (slice_index reach b - slice_index hs b)

-- A candidate at one of the given vertices.
pub record IsCandidateAmong (hs reach : List ℕ) (k : Kind) (ys : List ℕ)
    (aim : Target) : Type 0 where
  pub kind : aim.kind ≡ k
  pub there : 1 ≤ count aim.to ys
  pub near : slice_index reach aim.to < FAR
  pub by : aim.by ≡ change_at hs reach k aim.to

-- The lesser of a candidate and the best of the given vertices.
pub record IsBestCandidate (hs reach : List ℕ) (k : Kind) (ys : List ℕ)
    (old new : Target) : Type 0 where
  pub less : new.by ≤ old.by
  pub wide : (b : ℕ) → 1 ≤ count b ys → slice_index reach b < FAR
      → new.by ≤ change_at hs reach k b
  pub is : (new ≡ old) ⊎ IsCandidateAmong hs reach k ys new

-- An outer vertex has the slack of the candidate.
pub record CanFindEdge (t : TableValue) (hs : List ℕ) (root : OddSetValue) (tree : List BranchValue)
    (reach : List ℕ) (aim : Target) : Type 0 where
  pub can : HasOuterCells t hs root tree
  pub reaches : AreOuterSlacks t hs root tree reach
  pub within : aim.to < t.places
  pub near : slice_index reach aim.to < FAR

-- The change of a candidate, with the edge from an outer vertex that has its slack.
pub record IsCandidateChange (t : TableValue) (hs : List ℕ) (root : OddSetValue)
    (tree : List BranchValue)
    (reach : List ℕ) (aim : Target) (c : DualChange) : Type 0 where
  pub from : ℕ
  pub here : 1 ≤ count from (outer_members root.members tree)
  pub apart : count_holding_both from aim.to root tree ≡ 0
  pub exact : slice_index reach aim.to ≡ slack_from t hs from aim.to
  pub by : c.by ≡ aim.by
  pub step : c.step ≡ step_of aim.kind (record { from = from; to = aim.to })

-- The vertex is one of the given ones and has the given slack to x.
pub record HasSlackAt (t : TableValue) (hs xs : List ℕ) (x left a : ℕ) : Type 0 where
  pub here : 1 ≤ count a xs
  pub exact : left ≡ slack_from t hs a x

-- One of the given vertices with the given slack to x; None only where there is none.
abbrev pub FindsSlackIn : TableValue → List ℕ → List ℕ → ℕ → ℕ → Option ℕ → Type 0
FindsSlackIn t hs xs x left (Some a) = HasSlackAt t hs xs x left a
FindsSlackIn t hs xs x left None = IsSlackFromOne t hs xs x left → ⊥

-- A vertex of a set with the given slack to x; None only where there is none or the set holds x.
abbrev pub FindsSlackInSet : TableValue → List ℕ → OddSetValue → ℕ → ℕ → Option ℕ → Type 0
FindsSlackInSet t hs s x left (Some a) = (count x s.members ≡ 0)
    × HasSlackAt t hs s.members x left a
FindsSlackInSet t hs s x left None = count x s.members ≡ 0 → IsSlackFromOne t hs s.members x left
    → ⊥

-- The vertices that an edge of a kind leads to.
abbrev pub target_vertices : SearchValue → Kind → List ℕ
target_vertices s kind.Augment = s.free
target_vertices s kind.Grow = match_members s.rest
target_vertices s kind.Shrink = outer_vertices s

-- A candidate at one of the vertices that its kind leads to.
pub record IsCandidate (s : SearchValue) (hs reach : List ℕ) (aim : Target) : Type 0 where
  pub there : 1 ≤ count aim.to (target_vertices s aim.kind)
  pub near : slice_index reach aim.to < FAR
  pub by : aim.by ≡ change_at hs reach aim.kind aim.to
