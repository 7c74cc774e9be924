-- The initial duals of vertices, in halves of a step. The initial dual of a free vertex is named
-- `price`.
use Rattle.std.specs.Prelude.{◌≡◌, ◌≢◌, ℕ, ◌+◌, ◌*◌, ◌<◌, ◌≤◌, List, length, slice_index}
use Rattle.odd_sets.specs.DualSets.{count}
use Rattle.blossom_match.specs.Phases.{IsPartialWithHeights}
use Rattle.odd_sets.specs.TableValue.{TableValue}
use Rattle.odd_sets.specs.Tables.{entry}
use Rattle.odd_sets.specs.Values.{PartialMatchingValue}

-- With the given dual the slack between the vertex and each other isn't negative.
abbrev pub KeepsSlack : TableValue → List ℕ → ℕ → ℕ → Type 0
KeepsSlack t heights place price = (b : ℕ) → b < t.places → place ≢ b
    → price + slice_index heights b ≤ 2 * entry t place b

-- No dual exceeds the distance to any other vertex.
abbrev pub AreWithinDistances : TableValue → List ℕ → Type 0
AreWithinDistances t prices = (a b : ℕ) → a < t.places → b < t.places → a ≢ b
    → slice_index prices a ≤ entry t a b

-- The given vertex and the free ones are vertices of the table, and the slack between them isn't
-- negative.
pub record HasFreeSlack (t : TableValue) (heights free : List ℕ) (place : ℕ) : Type 0 where
  pub within : place < t.places
  pub others : (b : ℕ) → 1 ≤ count b free → b < t.places
  pub slack : KeepsSlack t heights place (slice_index heights place)

-- Two different vertices whose heights add up to twice their distance.
pub record IsTightPair (t : TableValue) (heights : List ℕ) (a b : ℕ) : Type 0 where
  pub differ : a ≢ b
  pub tight : slice_index heights a + slice_index heights b ≡ 2 * entry t a b

-- A free vertex with a tight edge to the given vertex.
pub record FindsTight (t : TableValue) (heights free : List ℕ) (place other : ℕ) : Type 0 where
  pub here : 1 ≤ count other free
  pub pair : IsTightPair t heights place other

-- Two free vertices with a tight edge between them.
pub record CanPair (t : TableValue) (place other : ℕ) (s : PartialMatchingValue) : Type 0 where
  pub stands : IsPartialWithHeights t s.matches s.free s.heights
  pub here : 1 ≤ count place s.free
  pub found : FindsTight t s.heights s.free place other

-- Both vertices are matched, and two free ones fewer are left.
pub record PairsFree (t : TableValue) (s r : PartialMatchingValue) : Type 0 where
  pub stands : IsPartialWithHeights t r.matches r.free r.heights
  pub fewer : length r.free + 2 ≡ length s.free
