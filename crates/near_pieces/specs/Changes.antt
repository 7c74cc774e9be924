-- Changes of an order by the indexes where its runs begin and end. No public clause cites this
-- file.
use Rattle.std.specs.Prelude.{◌≡◌, ℕ, ◌+◌, ◌-◌, ◌<◌, ◌≤◌, Bool, true, false, List, ◌++◌, Option, Some, None, drop, length, min, reverse, take}
use Rattle.design_model.specs.declared.point.Point.{Point}
use Rattle.near_pieces.specs.declared.ordering.VisitOrder.{VisitOrder}
use Rattle.near_pieces.specs.declared.tracks.Tracks.{Tracks}
use Rattle.near_pieces.specs.declared.visit.Visit.{Visit}
use Rattle.near_pieces.specs.Nodes.{IsMeasured}
use Rattle.near_pieces.specs.OrderChanges.{most_changed}
use Rattle.near_pieces.specs.Stops.{stops_in}
use Rattle.near_pieces.specs.Visits.{travel_in}

-- An order with its stops there, and those of the reversed order, which begins anywhere.
pub record IsTracks (visits : List Visit) (start : Option Point) (t : Tracks) : Type 0 where
  pub measured : IsMeasured visits start t.best
  pub there : t.there ≡ stops_in visits start 0 t.best.order
  pub back : t.back ≡ stops_in visits None 0 (reverse t.best.order)

-- An order in which the run from index i to j is exchanged with that from j to k.
abbrev pub moved_in : List ℕ → (i j k : ℕ) → List ℕ
moved_in order i j k = take i (take j (take k order)) ++ (drop j (take k order)
    ++ (drop i (take j (take k order)) ++ drop k order))

-- An order in which the run from index i to j is reversed.
abbrev pub reversed_in : List ℕ → (i j : ℕ) → List ℕ
reversed_in order i j = take i (take j order) ++ (drop (length order - j)
    (take (length order - i) (reverse order)) ++ drop j order)

-- No run from index i that ends by an end has less travel once it is reversed.
abbrev pub AreLeastReversed : List Visit → Option Point → VisitOrder → (i end : ℕ) → Type 0
AreLeastReversed visits start best i end = (j : ℕ) → i + 2 ≤ j → j ≤ end
    → best.travel ≤ travel_in visits start (reversed_in best.order i j)

-- The run from index i to j has no less travel once it is moved past one that ends by an end.
abbrev pub AreLeastMovedPast : List Visit → Option Point → VisitOrder → (i j end : ℕ) → Type 0
AreLeastMovedPast visits start best i j end = (k : ℕ) → j < k → k ≤ end
    → best.travel ≤ travel_in visits start (moved_in best.order i j k)

-- No run from index i has less travel once it is moved past one that ends by an end.
abbrev pub AreLeastMoved : List Visit → Option Point → VisitOrder → (i end : ℕ) → Type 0
AreLeastMoved visits start best i end = (j : ℕ) → i < j → j ≤ end
    → AreLeastMovedPast visits start best i j end

-- No run from an index has less travel once it is reversed or moved.
pub record IsLeastFrom (visits : List Visit) (start : Option Point) (best : VisitOrder) (i : ℕ)
    : Type 0 where
  pub end : ℕ
  pub end_is : end ≡ min (length best.order) (i + most_changed (length best.order))
  pub reversed : AreLeastReversed visits start best i end
  pub moved : AreLeastMoved visits start best i end

-- No run from one of the first indexes has less travel once it is reversed or moved.
abbrev pub IsLeastUpTo : List Visit → Option Point → VisitOrder → ℕ → Type 0
IsLeastUpTo visits start best count =
    (i : ℕ) → i < count → IsLeastFrom visits start best i

-- What was found is an order with less travel, or nothing was, which states that there is none.
abbrev pub IsFound : List Visit → Option Point → VisitOrder → Type 0 → Option Tracks → Type 0
IsFound visits start best none (Some new) =
    IsTracks visits start new × (new.best.travel < best.travel)
IsFound visits start best none None = none

-- A step changes the order, which makes the travel less, or finds none with less travel.
abbrev pub IsStep : List Visit → Option Point → (i : ℕ) → (old new : Tracks) → Bool → Type 0
IsStep visits start i old new true = new.best.travel < old.best.travel
IsStep visits start i old new false = (new ≡ old) × IsLeastFrom visits start old.best i

-- The steps so far have changed the order, which makes the travel less, or found none with less.
abbrev pub ArePassed : List Visit → Option Point → (count : ℕ) → (old new : Tracks) → Bool → Type 0
ArePassed visits start count old new true = new.best.travel < old.best.travel
ArePassed visits start count old new false =
    (new ≡ old) × IsLeastUpTo visits start old.best count
