-- Nodes of the search: an order that has begun. No public clause cites this file.
use Rattle.std.specs.Prelude.{◌≡◌, ℕ, ◌+◌, ◌*◌, ◌^◌, ◌<◌, ◌≤◌, List, [], ◌∷◌, ◌++◌, Option, Some, All, length, nat_lt, slice_get, if◌then◌else◌}
use Rattle.std.specs.List.{remove}
use Rattle.std.specs.List.Sorted.{IsPermutation}
use Rattle.design_model.specs.declared.point.Point.{Point}
use Rattle.near_pieces.specs.declared.node.Node.{Node}
use Rattle.near_pieces.specs.declared.ordering.VisitOrder.{VisitOrder}
use Rattle.near_pieces.specs.declared.visit.Visit.{Visit}
use Rattle.near_pieces.specs.Visits.{exit_from, travel_in, visit_at, way_to}
use Rattle.near_pieces.specs.VisitOrders.{IsOrderOf, given_order}

-- The node after the place with index x, the one at index i of those that are left.
abbrev pub node_after : List Visit → Node → (i x : ℕ) → Node
node_after visits n i x = record {
  from = Some (exit_from n.from (visit_at visits x));
  travel = n.travel + way_to n.from (visit_at visits x);
  taken = n.taken ++ x ∷ [];
  left = remove n.left i;
}

-- A node after one of the places that are left, the one at index i of these.
abbrev pub IsNodeAfter : List Visit → Node → (i : ℕ) → Node → Type 0
IsNodeAfter visits n i next = (x : ℕ) → slice_get n.left i ≡ Some x
    → next ≡ node_after visits n i x

-- The indexes that are left are those of places, and the travel to all of them can be added.
pub record AreInside (visits : List Visit) (n : Node) : Type 0 where
  pub inside : All (λ i. i < length visits) n.left
  pub small : n.travel + length n.left * 2 ^ 64 ≤ 2 ^ 100

-- A node of the search for an order of places from a point: each place is taken or left, and its
-- travel is that of the places that are taken.
pub record IsNode (visits : List Visit) (start : Option Point) (n : Node) : Type 0 where
  pub each : IsPermutation (given_order visits) (n.taken ++ n.left)
  pub cost : (rest : List ℕ) → travel_in visits start (n.taken ++ rest)
      ≡ n.travel + travel_in visits n.from rest
  pub inside : AreInside visits n

-- An order with each place once, and its travel.
pub record IsMeasured (visits : List Visit) (start : Option Point) (best : VisitOrder)
    : Type 0 where
  pub each : IsPermutation (given_order visits) best.order
  pub travel : best.travel ≡ travel_in visits start best.order

-- A travel is at most that of each order which goes on from a node.
abbrev pub IsLeastAfter : List Visit → Node → ℕ → Type 0
IsLeastAfter visits n travel = (rest : List ℕ) → IsOrderOf n.left rest
    → travel ≤ n.travel + travel_in visits n.from rest

-- The order of the taken places and its travel if that is less, else the best one so far.
abbrev pub less_of : Node → VisitOrder → VisitOrder
less_of n best = if nat_lt n.travel best.travel
    then record { order = n.taken; travel = n.travel } else best

-- A travel is at most that of each order which goes on from a node with one of the first places
-- that are left.
abbrev pub IsTriedUpTo : List Visit → Node → (count : ℕ) → ℕ → Type 0
IsTriedUpTo visits n count travel = (i x : ℕ) (rest : List ℕ) → i < count
    → slice_get n.left i ≡ Some x → IsOrderOf (remove n.left i) rest
    → travel ≤ n.travel + travel_in visits n.from (x ∷ rest)
