-- The least change of duals after which a step can be made.
use Rattle.std.specs.Prelude.{◌≡◌, ℕ, ◌+◌, ◌*◌, ◌<◌, ◌≤◌, ◌⊎◌, List, [], ◌∷◌, drop, length}
use Rattle.odd_sets.specs.Lists.{Each}
use Rattle.odd_sets.specs.DualSets.{count}
use Rattle.odd_sets.specs.MatchedSets.{match_members}
use Rattle.blossom_match.specs.Searches.{stored_height, search_holding_both, outer_vertices, IsSearch}
use Rattle.odd_sets.specs.TableValue.{TableValue}
use Rattle.odd_sets.specs.Tables.{entry}
use Rattle.odd_sets.specs.declared.odd_set.TightEdge.{TightEdge}
use Rattle.odd_sets.specs.Values.{BranchValue, SearchValue}
use Rattle.blossom_match.specs.declared.search.SearchStep.{SearchStep}
use Rattle.blossom_match.specs.declared.search.SearchStep.TheVariants.{Augment, Grow, Shrink, Expand}
use Rattle.blossom_match.specs.declared.least.DualChange.{DualChange}
use Rattle.blossom_match.specs.declared.least.Kind.{Kind}
use Rattle.blossom_match.specs.declared.least.Kind.TheVariants as kind

-- The step that an edge of a kind makes possible.
abbrev pub step_of : Kind → TightEdge → SearchStep
step_of kind.Augment link = Augment link
step_of kind.Grow link = Grow link
step_of kind.Shrink link = Shrink link

-- The inner set of the first branch is a blossom with the given dual.
abbrev pub FirstHasDual : ℕ → List BranchValue → Type 0
FirstHasDual by [] = ⊥
FirstHasDual by (b ∷ bs) = (b.inner.dual ≡ by) × (0 < length b.inner.below)

-- The dual of an inner blossom is at least the change.
abbrev pub AllowsChange : ℕ → BranchValue → Type 0
AllowsChange by b = 0 < length b.inner.below → by ≤ b.inner.dual

-- The change is the dual of an inner blossom, and its step expands that blossom.
pub record IsBlossomDual (tree : List BranchValue) (c : DualChange) : Type 0 where
  pub at : ℕ
  pub step : c.step ≡ Expand at
  pub due : FirstHasDual c.by (drop at tree)

-- The change is the dual of the branch's inner blossom, and its step expands that blossom.
pub record IsBranchDual (b : BranchValue) (at : ℕ) (c : DualChange) : Type 0 where
  pub step : c.step ≡ Expand at
  pub wide : b.inner.dual ≡ c.by
  pub some : 0 < length b.inner.below

-- The lesser of a change and the dual of the branch's inner blossom.
pub record IsLesserChangeAt (b : BranchValue) (at : ℕ) (old new : DualChange) : Type 0 where
  pub less : new.by ≤ old.by
  pub wide : AllowsChange new.by b
  pub is : (new ≡ old) ⊎ IsBranchDual b at new

-- The lesser of a change and the least dual of an inner blossom.
pub record IsLesserChange (tree : List BranchValue) (old new : DualChange) : Type 0 where
  pub less : new.by ≤ old.by
  pub wide : Each (AllowsChange new.by) tree
  pub is : (new ≡ old) ⊎ IsBlossomDual tree new

-- A step can be made after the duals have changed.
abbrev pub IsReadyAfter : TableValue → (ℕ → ℕ) → SearchValue → ℕ → SearchStep → Type 0
IsReadyAfter t h s by (Augment link) = (1 ≤ count link.from (outer_vertices s))
    × (1 ≤ count link.to s.free)
    × (h link.from + h link.to + by ≡ 2 * entry t link.from link.to)
IsReadyAfter t h s by (Grow link) = (1 ≤ count link.from (outer_vertices s))
    × (1 ≤ count link.to (match_members s.rest))
    × (h link.from + h link.to + by ≡ 2 * entry t link.from link.to)
IsReadyAfter t h s by (Shrink link) =
    (1 ≤ count link.from (outer_vertices s)) × (1 ≤ count link.to (outer_vertices s))
    × (search_holding_both link.from link.to s ≡ 0)
    × (h link.from + h link.to + 2 * by ≡ 2 * entry t link.from link.to)
IsReadyAfter t h s by (Expand at) = FirstHasDual by (drop at s.tree)

-- A least change of duals: after it no slack and no dual of an inner blossom is negative, and its
-- step can be made.
pub record IsLeastChange (t : TableValue) (h : ℕ
    → ℕ) (s : SearchValue) (c : DualChange) : Type 0 where
  pub one : (a b : ℕ) → 1 ≤ count a (outer_vertices s)
      → 1 ≤ count b (match_members s.rest) + count b s.free
      → h a + h b + c.by ≤ 2 * entry t a b
  pub two : (a b : ℕ) → 1 ≤ count a (outer_vertices s) → 1 ≤ count b (outer_vertices s)
      → search_holding_both a b s ≡ 0
      → h a + h b + 2 * c.by ≤ 2 * entry t a b
  pub blossoms : Each (AllowsChange c.by) s.tree
  pub due : IsReadyAfter t h s c.by c.step

-- A search that isn't over: a free vertex is left.
pub record CanSearch (t : TableValue) (s : SearchValue) : Type 0 where
  pub search : IsSearch t (stored_height s) s
  pub size : length s.heights ≡ t.places
  pub some : 1 ≤ length s.free
