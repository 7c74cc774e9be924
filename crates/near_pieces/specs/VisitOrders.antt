-- Orders of places, given by their indexes.
use Rattle.std.specs.Prelude.{◌≡◌, ℕ, ◌<◌, ◌≤◌, List, [], ◌∷◌, Option, Some, length, slice_get}
use Rattle.std.specs.List.{range_with_len, remove}
use Rattle.std.specs.List.Sorted.{IsPermutation}
use Rattle.design_model.specs.declared.point.Point.{Point}
use Rattle.near_pieces.specs.declared.ordering.TheConstants.{MAX_TRIED}
use Rattle.near_pieces.specs.declared.visit.Visit.{Visit}
use Rattle.near_pieces.specs.OrderChanges.{IsSettled}
use Rattle.near_pieces.specs.Visits.{travel_in}

-- An order of the indexes that are left: it takes any one of them first, and then has an order of
-- those that are left then.
abbrev pub IsOrderOf : List ℕ → List ℕ → Type 0
IsOrderOf left [] = left ≡ []
IsOrderOf left (x ∷ rest) = (i : ℕ) × (slice_get left i ≡ Some x) × IsOrderOf (remove left i) rest

-- The indexes of places in the order in which they are given.
abbrev pub given_order : List Visit → List ℕ
given_order visits = range_with_len 0 (length visits)

-- An order of places from a point, if there is one: with each place once, and with no more travel
-- than in the given order. Of at most MAX_TRIED places it has no more than any order, and of more
-- no more than after any change.
pub record IsNearOrder (visits : List Visit) (from : Option Point) (order : List ℕ) : Type 0 where
  pub each : IsPermutation (given_order visits) order
  pub no_more : travel_in visits from order ≤ travel_in visits from (given_order visits)
  pub least : length visits ≤ MAX_TRIED → (other : List ℕ) → IsOrderOf (given_order visits) other
      → travel_in visits from order ≤ travel_in visits from other
  pub settled : MAX_TRIED < length visits → IsSettled visits from order
