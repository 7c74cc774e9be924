-- One search after another, until no vertex is free.
use Rattle.std.specs.Prelude.{◌≡◌, ℕ, ◌+◌, ◌<◌, List, [], length, slice_index}
use Rattle.odd_sets.specs.Blossoms.{vertex_set}
use Rattle.blossom_match.specs.Searches.{search_size, Advances, EndsSearch, IsPartialMatching}
use Rattle.odd_sets.specs.TableValue.{TableValue}
use Rattle.odd_sets.specs.Tables.{IsTable}
use Rattle.odd_sets.specs.Values.{MatchValue, SearchValue}
use Rattle.odd_sets.specs.Slots.{matches_in}
use Rattle.blossom_match.specs.States.{search_value, partial_value}
use Rattle.blossom_match.specs.declared.search.SearchStep.{SearchStep}
use Rattle.blossom_match.specs.declared.state.Pairing.{Pairing}
use Rattle.blossom_match.specs.declared.phase.StepResult.{StepResult}
use Rattle.blossom_match.specs.declared.phase.StepResult.TheVariants.{More, Done}

-- A dual feasible partial matching with stored heights, one for each vertex of the table.
pub record IsPartialWithHeights (t : TableValue) (matches : List MatchValue)
    (free heights : List ℕ) : Type 0 where
  pub standing : IsPartialMatching t (λ x. slice_index heights x) matches free
  pub size : length heights ≡ t.places

-- A dual feasible partial matching between two searches.
abbrev pub IsPartialState : TableValue → Pairing → Type 0
IsPartialState t s = IsPartialWithHeights t (matches_in s.sets s.matches.items) s.free.items
    s.heights.items

-- Matches that hold all vertices.
pub record MatchesAll (t : TableValue) (matches : List MatchValue) : Type 0 where
  pub heights : List ℕ
  pub stands : IsPartialWithHeights t matches [] heights

-- A search whose tree is a single free vertex, the root.
pub record BeginsSearch (t : TableValue) (place : ℕ) (matches : List MatchValue)
    (places prices : List ℕ)
    (s : SearchValue) : Type 0 where
  pub table : IsTable t
  pub root : s.root ≡ vertex_set s.root.key t place (slice_index prices place)
  pub heights : s.heights ≡ prices
  pub tree : s.tree ≡ []
  pub rest : s.rest ≡ matches
  pub free : s.free ≡ places

-- The result of a step: another search over the table, or a partial matching at its end.
abbrev pub IsStepResult : TableValue → SearchValue → SearchStep → StepResult → Type 0
IsStepResult t s step (More r) = Advances s step (search_value r.search) × (r.t.now ≡ t)
IsStepResult t s step (Done r) = EndsSearch t s step (partial_value r)

-- The progress of a step: a search over the table with fewer sets outside the outer ones, or the
-- end of the search.
abbrev pub MakesProgress : TableValue → SearchValue → StepResult → Type 0
MakesProgress t s (More r) = (search_size (search_value r.search) < search_size s)
    × (r.search.free.items ≡ s.free) × (r.t.now ≡ t)
MakesProgress t s (Done r) = IsPartialState t r × (length r.free.items + 1 ≡ length s.free)
