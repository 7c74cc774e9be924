-- Searches and their steps: a root at the vertex 0, a branch over 1 to 2, the match of 3 and 4, and the free vertices 5 and 6.
use Rattle.std.proofs.Common.{◌≡◌, ℕ, ◌+◌, ◌*◌, ◌<◌, ◌≤◌, List, [], ◌∷◌, ◌++◌, length, ap, refl, arith}
use Rattle.std.specs.Prelude.{slice_index}
use Rattle.blossom_match.proofs.Names.{Augment, BeginsSearch, BranchValue, CanStep, Each, Expand, ExpandsBranch, Grow, GrowsBranch, IsAlternatingTree, IsMatch, IsPartialMatching, IsSearch, IsSoundBranch, IsSoundMatch, IsSoundSet, IsStepReady, IsStepResult, IsTable, MakesProgress, MatchValue, MatchesAll, OddSetValue, SearchStep, SearchValue, Shrink, TableValue, TightEdge, count, entry, is_place, odd_set_of, partial_value, search_size, search_value, stored_height, vertex_set}
use Rattle.blossom_match.specs.LeastChanges.{CanSearch}
use Rattle.blossom_match.specs.Masks.{IsSearchMask}
use Rattle.blossom_match.specs.OuterSlacks.{AreSearchSlacks}
use Rattle.blossom_match.specs.declared.kept_search.KeptSearch.{KeptSearch}
use Rattle.blossom_match.specs.declared.phase.StepResult.TheVariants.{Done, More}
use Rattle.blossom_match.specs.declared.state.Pairing.{Pairing}

abbrev pub link : ℕ → ℕ → TightEdge
link from to = record { from = from; to = to }

abbrev pub place : ℕ → ℕ → OddSetValue
place x dual = odd_set_of x (x ∷ []) dual [] []

abbrev pub branch : BranchValue
branch = record { up = link 0 1; inner = place 1 3; pair = link 1 2; outer = place 2 1 }

abbrev pub pair : MatchValue
pair = record { first = place 3 2; second = place 4 2; link = link 3 4 }

abbrev pub search : SearchValue
search = record {
  root = place 0 1;
  tree = branch ∷ [];
  rest = pair ∷ [];
  free = 5 ∷ 6 ∷ [];
  heights = 1 ∷ 3 ∷ 1 ∷ 2 ∷ 2 ∷ 4 ∷ 5 ∷ [];
}

none_there : 1 ≤ 0 → ⊥
none_there is = omega (arith, is)

-- heights are what the sets add up to, each vertex of the table is in one place, and no load or slack is beyond a distance
pub known_search : (t : TableValue) (h : ℕ → ℕ) → IsSearch t h search → 6 < t.places
    → (h 1 ≡ 3) × (h 4 ≡ 2) × (h 2 + h 6 ≤ 2 * entry t 2 6) × (1 ≡ is_place t 6) × (0 ≡ is_place t 7)
    × (5 ≤ 2 * entry t 1 4)
known_search t h is six = (
  is.tall 1 refl,
  is.tall 4 refl,
  is.slack 2 6 (omega (arith, six)) (omega arith) (λ same. omega (arith, same)),
  is.places 6,
  is.places 7,
  is.loads 1 4 (omega (arith, six)) (omega (arith, six)) (λ same. omega (arith, same)),
)

-- its tree alternates, its matches are matches, and all sets are sound
pub known_sound_search : (t : TableValue) (h : ℕ → ℕ) (s : SearchValue) → IsSearch t h s → IsAlternatingTree s.root.members s.tree
    × Each IsMatch s.rest × IsSoundSet t h s.root × Each (IsSoundBranch t h) s.tree × Each (IsSoundMatch t h) s.rest
known_sound_search t h s is = (is.grown, is.joined, is.root, is.tree, is.rest)

-- a partial matching likewise
pub known_partial : (t : TableValue) (h : ℕ → ℕ) → IsPartialMatching t h (pair ∷ []) (5 ∷ []) → 5 < t.places
    → (h 4 ≡ 2) × (h 3 + h 5 ≤ 2 * entry t 3 5) × (1 ≡ is_place t 5) × (0 ≡ is_place t 6) × (4 ≤ 2 * entry t 3 4)
    × IsMatch pair × IsSoundMatch t h pair
known_partial t h is five = (
  is.tall 4 refl,
  is.slack 3 5 (omega (arith, five)) (omega arith) (λ same. omega (arith, same)),
  is.places 5,
  is.places 6,
  is.loads 3 4 (omega (arith, five)) (omega (arith, five)) (λ same. omega (arith, same)),
  is.joined.0,
  is.firm.0,
)

pub known_all_matched : (t : TableValue) (all : MatchesAll t (pair ∷ []))
    → (length all.heights ≡ t.places) × (1 ≡ is_place t 4) × (0 ≡ is_place t 2)
known_all_matched t all = (all.stands.size, all.stands.standing.places 4, all.stands.standing.places 2)

-- an edge for a step begins at an outer vertex, is tight, and leads to a free, a matched or another outer vertex
pub known_ready : (t : TableValue) (h : ℕ → ℕ) (way : TightEdge)
    → (IsStepReady t h search (Augment way) → (1 ≤ count way.from (2 ∷ 0 ∷ [])) × (1 ≤ count way.to (5 ∷ 6 ∷ []))
    × (2 * entry t way.from way.to ≡ h way.from + h way.to))
    × (IsStepReady t h search (Grow way) → (1 ≤ count way.from (2 ∷ 0 ∷ [])) × (1 ≤ count way.to (3 ∷ 4 ∷ []))
    × (2 * entry t way.from way.to ≡ h way.from + h way.to))
    × (IsStepReady t h search (Shrink way) → (1 ≤ count way.from (2 ∷ 0 ∷ [])) × (1 ≤ count way.to (2 ∷ 0 ∷ []))
    × (2 * entry t way.from way.to ≡ h way.from + h way.to))
known_ready t h way = (λ is. (is.0, is.1, is.2), λ is. (is.0, is.1, is.2), λ is. (is.0, is.1, is.3))

pub known_not_ready : (t : TableValue) (h : ℕ → ℕ) → (IsStepReady t h search (Shrink (link 2 2)) → ⊥)
    × (IsStepReady t h search (Expand 0) → ⊥) × (IsStepReady t h search (Expand 1) → ⊥)
known_not_ready t h = (λ is. other is.2, λ is. costs is.0, λ is. is)
  where
    other : ◌≡◌ {A = ℕ} 1 0 → ⊥
    other is = omega (arith, is)

    costs : ◌≡◌ {A = ℕ} 3 0 → ⊥
    costs is = omega (arith, is)

pub known_can_step : (step : SearchStep) (can : CanStep search step) → IsSearch can.t (stored_height search) search
    × IsStepReady can.t (stored_height search) search step × (7 ≡ can.t.places)
known_can_step step can = (can.can.search, can.can.ready, can.can.size)

-- after a step: a search with fewer sets outside the outer ones, or a partial matching with one free vertex fewer
pub known_more : (t : TableValue) (step : SearchStep) (r : KeptSearch) → IsStepResult t search step (More r)
    → (length r.search.free.items ≡ 2) × (r.search.heights.items ≡ 1 ∷ 3 ∷ 1 ∷ 2 ∷ 2 ∷ 4 ∷ 5 ∷ [])
    × (search_size (search_value r.search) < 3) × (r.t.now ≡ t)
    × ((h : ℕ → ℕ) → IsSearch t h search → IsStepReady t h search step → IsSearch t h (search_value r.search))
known_more t step r is = (ap (λ (free : List ℕ). length free) is.0.free, is.0.heights, is.0.fewer, is.1, is.0.search t)

pub known_done : (t : TableValue) (step : SearchStep) (r : Pairing) → IsStepResult t search step (Done r)
    → (length r.free.items + 1 ≡ 2) × (r.heights.items ≡ 1 ∷ 3 ∷ 1 ∷ 2 ∷ 2 ∷ 4 ∷ 5 ∷ [])
    × IsPartialMatching t (stored_height search) (partial_value r).matches r.free.items
known_done t step r is = (is.fewer, is.heights, is.standing)

pub known_progress : (t : TableValue) (r : KeptSearch) → MakesProgress t search (More r)
    → (search_size (search_value r.search) < 3) × (r.search.free.items ≡ 5 ∷ 6 ∷ []) × (r.t.now ≡ t)
known_progress t r is = (is.0, is.1, is.2)

pub known_end : (t : TableValue) (r : Pairing) → MakesProgress t search (Done r)
    → (length r.heights.items ≡ t.places) × (length r.free.items + 1 ≡ 2)
    × IsPartialMatching t (λ x. slice_index r.heights.items x) (partial_value r).matches r.free.items
known_end t r is = (is.0.size, is.1, is.0.standing)

-- a branch is appended, or comes before another one with further matches
pub known_grown : (r : SearchValue) (is : GrowsBranch search r) → (r.tree ≡ branch ∷ is.branch ∷ []) × (r.root ≡ place 0 1)
known_grown r is = (is.tree, is.root)

pub known_expanded : (r : SearchValue) (is : ExpandsBranch 0 search r) → (r.root ≡ place 0 1) × (r.rest ≡ pair ∷ is.more)
    × (r.tree ≡ is.grows.before ++ (is.grows.added ++ is.grows.last ∷ is.grows.later)) × (length is.grows.before ≡ 0)
known_expanded r is = (is.root, is.rest, is.grows.now, is.grows.size)

-- a search begins at a free vertex of a table, with its price as dual
pub known_begun : (t : TableValue) (r : SearchValue) → BeginsSearch t 1 (pair ∷ []) (5 ∷ []) (7 ∷ 8 ∷ 9 ∷ []) r
    → IsTable t × (r.root ≡ vertex_set r.root.key t 1 8) × (r.heights ≡ 7 ∷ 8 ∷ 9 ∷ []) × (r.tree ≡ []) × (r.rest ≡ pair ∷ [])
    × (r.free ≡ 5 ∷ [])
known_begun t r is = (is.table, is.root, is.heights, is.tree, is.rest, is.free)

-- a search of which more is kept has free vertices, the slacks from its outer vertices, and a mask of its matches
pub known_kept : (s : KeptSearch) → ∥ CanSearch s.t.now (search_value s.search) ∥₁
    × ∥ AreSearchSlacks s.t.now (search_value s.search) s.reach.items ∥₁
    × IsSearchMask s.t.now (search_value s.search) s.mask.items
known_kept s = (s.can, s.reaches, s.masks)
