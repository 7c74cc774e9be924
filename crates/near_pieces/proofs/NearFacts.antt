-- Worked values of places of pieces, of their starts and of runs, and what is refuted.
use Rattle.std.proofs.Common.{◌≡◌, ℤ, ℕ, pos, List, [], ◌∷◌, Option, Some, None, Err, true, false, map, refl}
use Rattle.near_pieces.proofs.Names.{AreNearLines, AreNearOrders, DrawingValue, IsFoundFrom, IsLesser, LineValue, NearDrawing, Point, Spot, are_in_order, lines_numbered}
use Rattle.near_pieces.specs.NearDrawings.{are_drawn_whole}
use Rattle.near_pieces.specs.PiecePlaces.{place_between, starts_between}
use Rattle.line_graph.specs.declared.draw_kind.DrawKind.TheVariants as kind
use Rattle.line_graph.specs.declared.piece.Piece.{Piece}

abbrev point : ℤ → ℤ → Point
point x y = record { x = x; y = y }

abbrev corners : List Point
corners = point (pos 1) (pos 2) ∷ point (pos 3) (pos 4) ∷ point (pos 5) (pos 6) ∷ []

-- A piece without a start and an end may be entered at each junction; another one at its start, and is left at its end.
pub known_places : place_between corners None None ∷ place_between corners (Some 1) (Some 2) ∷ []
    ≡ record { first = point (pos 1) (pos 2); others = point (pos 3) (pos 4) ∷ point (pos 5) (pos 6) ∷ []; leaves = None }
    ∷ record { first = point (pos 3) (pos 4); others = []; leaves = Some (point (pos 5) (pos 6)) } ∷ []
known_places = refl

abbrev spot : ℕ → Point → Spot
spot block at = record { block = block; at = at }

-- A start stays, an end alone gets none, and a piece with neither starts where it is entered.
pub known_starts : map (λ (ends : Option ℕ). starts_between 7 corners (Some 1) ends (point (pos 9) (pos 9))) (None ∷ Some 2 ∷ [])
    ≡ (spot 7 (point (pos 3) (pos 4)) ∷ []) ∷ (spot 7 (point (pos 3) (pos 4)) ∷ []) ∷ []
known_starts = refl

pub known_new_starts : map (λ (ends : Option ℕ). starts_between 7 corners None ends (point (pos 9) (pos 9))) (None ∷ Some 2 ∷ [])
    ≡ (spot 7 (point (pos 9) (pos 9)) ∷ []) ∷ [] ∷ []
known_new_starts = refl

-- Spots are in the order of their blocks, or not.
pub known_orders : map (λ (blocks
    : List ℕ). are_in_order (map (λ n. spot n (point (pos 0) (pos 0))) blocks)) ((0 ∷ 0 ∷ 2 ∷ []) ∷ (0 ∷ 2 ∷ 1 ∷ []) ∷ [])
    ≡ true ∷ false ∷ []
known_orders = refl

abbrev line_in : ℕ → LineValue
line_in block = record { block = block; points = corners }

-- Lines come in the order of the indexes, each as often as it is named.
pub known_lines : lines_numbered (line_in 0 ∷ line_in 1 ∷ []) (1 ∷ 0 ∷ 5 ∷ []) ≡ line_in 1 ∷ line_in 0 ∷ []
known_lines = refl

-- Lines are drawn whole where they are in the order of their blocks and as many; a cut line isn't, and neither is a block too early.
pub known_whole : (d : DrawingValue)
    → map (λ lines. are_drawn_whole lines (record d { lines = line_in 0 ∷ line_in 1 ∷ [] }))
    ((line_in 0 ∷ line_in 1 ∷ []) ∷ (line_in 0 ∷ []) ∷ (line_in 1 ∷ line_in 0 ∷ []) ∷ []) ≡ true ∷ false ∷ false ∷ []
known_whole d = refl

-- Without pieces there are no lines, and no start.
pub no_piece_has_a_line : (new : List LineValue) (starts : List Spot) → AreNearLines [] None [] new starts → new ≡ []
no_piece_has_a_line new starts are = are.lines_are

pub no_piece_has_a_start : (new : List LineValue) (starts : List Spot) → AreNearLines [] None [] new starts → starts ≡ []
no_piece_has_a_start new starts are = are.starts_are

-- No order is left over.
pub no_order_is_left : AreNearOrders None [] ([] ∷ []) → ⊥
no_order_is_left is = is

-- Each run has an order.
pub known_each_run : (from : Option Point) (run other : List Piece)
    (order : List ℕ) → AreNearOrders from (run ∷ other ∷ []) (order ∷ []) → ⊥
known_each_run from run other order are = are.1

-- The drawing stays where the other one can't be drawn, and then its travel does.
pub kept_travel : (d : DrawingValue) (found : NearDrawing) → IsFoundFrom d [] (Err kind.Memory) found → found.after ≡ found.before
kept_travel d found is = is.1

-- The lesser one is taken.
pub lesser_travel : (d new : DrawingValue) (found : NearDrawing) → IsLesser d new 20 10 true found → found.after ≡ 10
lesser_travel d new found is = is.1

pub kept_drawing : (d new : DrawingValue) (found : NearDrawing) → IsLesser d new 20 30 false found → found.drawing ≡ d
kept_drawing d new found is = is.0
