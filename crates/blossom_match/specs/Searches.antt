-- The invariants of a partial matching and of a search, between two steps.
use Rattle.std.specs.Prelude.{◌≡◌, ◌≢◌, ℕ, ◌+◌, ◌*◌, ◌<◌, ◌≤◌, List, [], ◌∷◌, ◌++◌, drop, length, nat_lt, slice_index, if◌then◌else◌}
use Rattle.odd_sets.specs.Lists.{Each}
use Rattle.odd_sets.specs.DualSets.{dual_sets, count, height, dual_load}
use Rattle.odd_sets.specs.MatchedSets.{match_members, match_dual_sets, IsMatch}
use Rattle.odd_sets.specs.SoundSets.{IsSoundBranch, IsSoundMatch, IsSoundSet, IsTight}
use Rattle.odd_sets.specs.Trees.{outer_with_both, one_if_both, branch_dual_sets, inner_dual_sets, inner_members, outer_members, IsAlternatingTree}
use Rattle.odd_sets.specs.Expansions.{FirstCanExpand, InsertsBranches}
use Rattle.odd_sets.specs.TableValue.{TableValue}
use Rattle.odd_sets.specs.Tables.{entry}
use Rattle.odd_sets.specs.Values.{BranchValue, MatchValue, SearchValue, PartialMatchingValue}
use Rattle.blossom_match.specs.declared.search.SearchStep.{SearchStep}
use Rattle.blossom_match.specs.declared.search.SearchStep.TheVariants.{Augment, Grow, Shrink, Expand}

-- 1 where x is a vertex of the table, else 0.
abbrev pub is_place : TableValue → ℕ → ℕ
is_place t x = if nat_lt x t.places then 1 else 0

-- The slack between a free vertex and any other isn't negative.
abbrev pub FreeHaveSlack : TableValue → (ℕ → ℕ) → List ℕ → Type 0
FreeHaveSlack t h free = (a f : ℕ) → a < t.places → 1 ≤ count f free → a ≢ f
    → h a + h f ≤ 2 * entry t a f

-- A partial matching that is dual feasible: each vertex is matched or free, matches are tight, and
-- no load exceeds its distance. The height h of a free vertex is its initial dual.
pub record IsPartialMatching (t : TableValue) (h : ℕ → ℕ) (matches : List MatchValue)
    (free : List ℕ) : Type 0 where
  pub tall : (x : ℕ) → count x free ≡ 0 → h x ≡ height x (match_dual_sets matches)
  pub slack : FreeHaveSlack t h free
  pub places : (x : ℕ) → count x (match_members matches) + count x free ≡ is_place t x
  pub joined : Each IsMatch matches
  pub firm : Each (IsSoundMatch t h) matches
  pub loads : (a b : ℕ) → a < t.places → b < t.places → a ≢ b
      → dual_load a b (match_dual_sets matches) ≤ 2 * entry t a b

-- The outer vertices of a search: those of the root and of the outer sets.
abbrev pub outer_vertices : SearchValue → List ℕ
outer_vertices s = outer_members s.root.members s.tree

-- The duals of all sets of a search that hold a vertex, added up.
abbrev pub dual_height : SearchValue → ℕ → ℕ
dual_height s x = height x (dual_sets s.root) + height x (branch_dual_sets s.tree)
    + height x (match_dual_sets s.rest)

-- The height of a vertex that a search stores.
abbrev pub stored_height : SearchValue → ℕ → ℕ
stored_height s x = slice_index s.heights x

-- A search that is dual feasible: a sound alternating tree, the tight matches outside it, and the
-- free vertices. The heights h are those that all sets make; that of a free vertex is its initial
-- dual.
pub record IsSearch (t : TableValue) (h : ℕ → ℕ) (s : SearchValue) : Type 0 where
  pub tall : (x : ℕ) → count x s.free ≡ 0 → h x ≡ dual_height s x
  pub slack : FreeHaveSlack t h s.free
  pub places : (x : ℕ) → count x (outer_vertices s) + count x (inner_members s.tree)
      + count x (match_members s.rest) + count x s.free ≡ is_place t x
  pub grown : IsAlternatingTree s.root.members s.tree
  pub joined : Each IsMatch s.rest
  pub root : IsSoundSet t h s.root
  pub tree : Each (IsSoundBranch t h) s.tree
  pub rest : Each (IsSoundMatch t h) s.rest
  pub loads : (a b : ℕ) → a < t.places → b < t.places → a ≢ b →
      dual_load a b (dual_sets s.root) + dual_load a b (branch_dual_sets s.tree)
      + dual_load a b (match_dual_sets s.rest) ≤ 2 * entry t a b

-- The number of outer sets of a search that hold both vertices.
abbrev pub search_holding_both : ℕ → ℕ → SearchValue → ℕ
search_holding_both a b s = one_if_both a b s.root + outer_with_both a b s.tree

-- A step of a search can be made.
abbrev pub IsStepReady : TableValue → (ℕ → ℕ) → SearchValue → SearchStep → Type 0
IsStepReady t h s (Augment link) = (1 ≤ count link.from (outer_vertices s))
    × (1 ≤ count link.to s.free)
    × IsTight t h link
IsStepReady t h s (Grow link) = (1 ≤ count link.from (outer_vertices s))
    × (1 ≤ count link.to (match_members s.rest)) × IsTight t h link
IsStepReady t h s (Shrink link) =
    (1 ≤ count link.from (outer_vertices s)) × (1 ≤ count link.to (outer_vertices s))
    × (search_holding_both link.from link.to s ≡ 0) × IsTight t h link
IsStepReady t h s (Expand at) = FirstCanExpand (drop at s.tree)

-- A search over a table in which a step can be made.
pub record CanStepAt (t : TableValue) (s : SearchValue) (step : SearchStep) : Type 0 where
  pub search : IsSearch t (stored_height s) s
  pub ready : IsStepReady t (stored_height s) s step
  pub size : length s.heights ≡ t.places

-- A search over some table in which a step can be made.
pub record CanStep (s : SearchValue) (step : SearchStep) : Type 0 where
  pub t : TableValue
  pub can : CanStepAt t s step

-- The number that decreases with each step of a search: the sets that are in no outer set.
abbrev pub search_size : SearchValue → ℕ
search_size s = length (inner_dual_sets s.tree) + length (match_dual_sets s.rest)

-- A step leads to another search, with fewer sets that are in no outer set.
pub record Advances (s : SearchValue) (step : SearchStep) (r : SearchValue) : Type 0 where
  pub search : (t : TableValue) (h : ℕ → ℕ) → IsSearch t h s → IsStepReady t h s step
      → IsSearch t h r
  pub fewer : search_size r < search_size s
  pub free : r.free ≡ s.free
  pub heights : r.heights ≡ s.heights

-- Branches are inserted before the one at an index, below the same root, and matches are appended.
pub record ExpandsBranch (at : ℕ) (s r : SearchValue) : Type 0 where
  pub grows : InsertsBranches at s.tree r.tree
  pub root : r.root ≡ s.root
  pub more : List MatchValue
  pub rest : r.rest ≡ s.rest ++ more

-- One branch is appended, below the same root.
pub record GrowsBranch (s r : SearchValue) : Type 0 where
  pub branch : BranchValue
  pub tree : r.tree ≡ s.tree ++ branch ∷ []
  pub root : r.root ≡ s.root

-- A step ends the search, with a partial matching of one free vertex fewer.
pub record EndsSearch (t : TableValue) (s : SearchValue) (step : SearchStep)
    (r : PartialMatchingValue) : Type 0 where
  pub standing : IsPartialMatching t (stored_height s) r.matches r.free
  pub fewer : length r.free + 1 ≡ length s.free
  pub heights : r.heights ≡ s.heights
