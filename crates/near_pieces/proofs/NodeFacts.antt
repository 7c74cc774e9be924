-- Worked values of nodes of the search for an order, and of the steps by which pieces are put together.
use Rattle.std.proofs.Common.{◌≡◌, ℕ, ◌+◌, ◌*◌, ◌^◌, ◌<◌, ◌≤◌, pos, List, [], ◌∷◌, ◌++◌, Some, None, All, IsPermutation, map, ap, refl, arith}
use Rattle.near_pieces.proofs.Names.{IsNearOrder, LineValue, Point, Visit, travel_in}
use Rattle.design_model.specs.Lengths.{length_of, square_of, whole_root}
use Rattle.line_graph.specs.declared.piece.Piece.{Piece}
use Rattle.near_pieces.specs.NearSteps.{IsRunPut, piece_put}
use Rattle.near_pieces.specs.NearLines.{lines_in_run, lines_of, needle_after_run, starts_in_run}
use Rattle.near_pieces.specs.Nodes.{AreInside, IsLeastAfter, IsMeasured, IsNode, IsNodeAfter, IsTriedUpTo, less_of, node_after}
use Rattle.near_pieces.specs.PiecePlaces.{needle_after, place_of, starts_of}
use Rattle.near_pieces.specs.VisitOrders.{given_order}
use Rattle.near_pieces.specs.declared.near_lines.NearLines.{NearLines}
use Rattle.near_pieces.specs.declared.node.Node.{Node}
use Rattle.near_pieces.specs.declared.ordering.VisitOrder.{VisitOrder}

abbrev at : ℕ → Point
at x = record { x = pos x; y = pos 0 }

-- three places on a line, at 0, at 10 mm and at 3 mm
abbrev place : ℕ → Visit
place x = record { first = at x; others = []; leaves = None }

abbrev places : List Visit
places = place 0 ∷ place 100 ∷ place 30 ∷ []

-- a node at the first place, with so much travel, and with these places left
abbrev node : ℕ → List ℕ → Node
node travel left = record { from = Some (at 0); travel = travel; taken = 0 ∷ []; left = left }

-- the node after the third place: 3 mm more, and the second is left
pub known_node_after : node_after places (node 500 (1 ∷ 2 ∷ [])) 1 2
    ≡ record { from = Some (at 30); travel = 3500; taken = 0 ∷ 2 ∷ []; left = 1 ∷ [] }
unfolding length_of square_of whole_root
known_node_after = refl

pub known_no_node_after : (next : Node) → next.travel ≡ 500 → IsNodeAfter places (node 500 (1 ∷ 2 ∷ [])) 1 next → ⊥
unfolding length_of square_of whole_root
known_no_node_after next travel is =
    let more : next.travel ≡ 3500 = ap (λ (n : Node). n.travel) (is 2 refl) in omega (arith, travel, more)

-- the indexes that are left are those of places, and their travel can be added
pub known_inside : (travel : ℕ) → AreInside places (node travel (1 ∷ 2 ∷ []))
    → All (λ (i : ℕ). i < 3) (1 ∷ 2 ∷ []) × (travel + 2 * 2 ^ 64 ≤ 2 ^ 100)
known_inside travel are = (are.inside, are.small)

pub known_outside : AreInside places (node 500 (1 ∷ 3 ∷ [])) → ⊥
known_outside are = let more : 3 < 3 = are.inside 1 0 (omega arith) in omega (arith, more)

-- each place is taken or left, and the travel is that of the taken ones
pub known_node : (travel : ℕ) → IsNode places None (node travel (1 ∷ 2 ∷ []))
    → IsPermutation (given_order places) (0 ∷ 1 ∷ 2 ∷ []) × AreInside places (node travel (1 ∷ 2 ∷ []))
known_node travel is = (is.each, is.inside)

pub known_node_cost : (travel : ℕ) → IsNode places None (node travel (1 ∷ 2 ∷ []))
    → travel_in places None (0 ∷ 2 ∷ []) ≡ travel + travel_in places (Some (at 0)) (2 ∷ [])
known_node_cost travel is = is.cost (2 ∷ [])

-- an order with its travel
abbrev order : List ℕ → ℕ → VisitOrder
order indexes travel = record { order = indexes; travel = travel }

pub known_measured : (travel : ℕ) → IsMeasured places None (order (0 ∷ 2 ∷ 1 ∷ []) travel)
    → IsPermutation (given_order places) (0 ∷ 2 ∷ 1 ∷ []) × (travel ≡ travel_in places None (0 ∷ 2 ∷ 1 ∷ []))
known_measured travel is = (is.each, is.travel)

-- of an order and a node the one with less travel, and the order where they are equal
pub known_less : (less_of (node 500 []) (order (2 ∷ []) 501) ≡ order (0 ∷ []) 500)
    × (less_of (node 500 []) (order (2 ∷ []) 500) ≡ order (2 ∷ []) 500)
known_less = (refl, refl)

-- no order that goes on from a node has less travel: here by 3 mm and by 7 mm to both places that are left
pub known_not_least : IsLeastAfter places (node 500 (1 ∷ 2 ∷ [])) 10501 → ⊥
unfolding length_of square_of whole_root
known_not_least least =
    let most : 10501 ≤ 10500 = least (2 ∷ 1 ∷ []) (1, refl, (0, refl, refl)) in omega (arith, most)

-- nor has one that goes on with one of the first places: 10 mm there, and 7 mm back to the other
pub known_not_tried : IsTriedUpTo places (node 500 (1 ∷ 2 ∷ [])) 1 17501 → ⊥
unfolding length_of square_of whole_root
known_not_tried tried =
    let most : 17501 ≤ 17500 = tried 0 1 (2 ∷ []) (omega arith) refl (0, refl, refl) in omega (arith, most)

-- a piece that is put adds its lines and its start, and the needle is at its end
pub known_piece_put : (lines : List LineValue) (p : Piece) (near : NearLines) → piece_put lines p near ≡ record {
  lines = near.lines ++ lines_of lines (Some p);
  starts = near.starts ++ starts_of near.from (Some p);
  from = needle_after near.from (Some p);
}
known_piece_put lines p near = refl

-- a run is put in an order with little travel
pub known_run_put : (lines : List LineValue) (run : List Piece) (near new : NearLines) → IsRunPut lines run near new
    → (order : List ℕ) × IsNearOrder (map place_of run) near.from order
    × (new.lines ≡ near.lines ++ lines_in_run lines run order) × (new.starts ≡ near.starts ++ starts_in_run near.from run order)
    × (new.from ≡ needle_after_run near.from run order)
known_run_put lines run near new put = (
  put.order,
  put.ordered,
  ap (λ (n : NearLines). n.lines) put.put,
  ap (λ (n : NearLines). n.starts) put.put,
  ap (λ (n : NearLines). n.from) put.put,
)
