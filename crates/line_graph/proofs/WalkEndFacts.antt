-- Starts and ends, worked out by hand: an angle of two lines and a stroke in one block, a stroke at the angle's first
-- point in the next one.
use Rattle.std.proofs.Common.{◌≡◌, ℕ, pos, true, false, List, [], ◌∷◌, Option, Some, None, Ok, Err, map, refl}
use Rattle.line_graph.proofs.DrawingNames.{Point, Spot, LineValue, DrawingValue, are_connected_spots, is_junction, end_added, start_added, walk_end_added}
use Rattle.line_graph.specs.DrawnWalks.{KeepsGivenEnds, is_junction_of}
use Rattle.line_graph.specs.PieceWalks.{edge_value}
use Rattle.line_graph.specs.declared.draw_kind.DrawKind.TheVariants as kind

abbrev at : ℕ → ℕ → Point
at x y = record { x = pos x; y = pos y }

abbrev spot : ℕ → ℕ → ℕ → Spot
spot block x y = record { block = block; at = at x y }

abbrev line : ℕ → List Point → LineValue
line block points = record { block = block; points = points }

abbrev drawn : List Spot → List Spot → DrawingValue
drawn starts ends = record {
  label = [];
  step = 10;
  threads = 5 ∷ 6 ∷ [];
  lines = line 0 (at 0 0 ∷ at 5 5 ∷ at 10 0 ∷ []) ∷ line 0 (at 30 0 ∷ at 40 0 ∷ []) ∷ line 0 (at 10 0 ∷ at 10 10 ∷ [])
      ∷ line 1 (at 0 0 ∷ at 10 0 ∷ []) ∷ [];
  starts = starts;
  ends = ends;
}

-- only the ends of lines are junctions, in the block of the line
pub known_is_junction : (is_junction (drawn [] []).lines (spot 0 10 0) ≡ true)
    × (is_junction (drawn [] []).lines (spot 0 5 5) ≡ false)
    × (is_junction (drawn [] []).lines (spot 1 30 0) ≡ false)
known_is_junction = (refl, refl, refl)

-- the junctions of the angle are its ends, in its block
pub known_is_junction_of : map (is_junction_of (drawn [] []) (0 ∷ 2 ∷ []))
    (spot 0 10 10 ∷ spot 0 5 5 ∷ spot 0 30 0 ∷ spot 1 10 0 ∷ []) ≡ true ∷ false ∷ false ∷ false ∷ []
known_is_junction_of = refl

-- a thread keeps both ends that are given, and returns to one that is given alone
pub known_given_ends : (start end from to : Point) (some any : Option Point)
    → (KeepsGivenEnds (Some start) (Some end) some any → (some ≡ Some start) × (any ≡ Some end))
    × (KeepsGivenEnds (Some start) None some any → (some ≡ Some start) × (any ≡ Some start))
    × (KeepsGivenEnds None (Some end) some any → (some ≡ Some end) × (any ≡ Some end))
    × (KeepsGivenEnds None None (Some from) (Some to) → Some from ≡ Some to)
known_given_ends start end from to some any = (λ keeps. keeps, λ keeps. keeps, λ keeps. keeps, λ keeps. keeps)

-- a line that isn't there adds nothing
pub known_edge_value : edge_value (λ edge. 7) None ≡ 0
known_edge_value = refl

-- the angle connects its three ends, and not the strokes
pub known_are_connected_spots : (are_connected_spots (drawn [] []).lines (spot 0 10 10) (spot 0 0 0) ≡ true)
    × (are_connected_spots (drawn [] []).lines (spot 0 10 10) (spot 0 40 0) ≡ false)
    × (are_connected_spots (drawn [] []).lines (spot 0 10 0) (spot 1 10 0) ≡ false)
known_are_connected_spots = (refl, refl, refl)

-- a start at a junction, and none elsewhere
pub known_start_added : (start_added (drawn [] []) (spot 0 10 10) ≡ Ok (drawn (spot 0 10 10 ∷ []) []))
    × (start_added (drawn (spot 0 10 10 ∷ []) []) (spot 0 5 5) ≡ Err kind.NoJunction)
    -- a piece has one start, and may have an end beside it, at the same junction too
    × (start_added (drawn (spot 0 10 10 ∷ []) []) (spot 0 0 0) ≡ Err kind.EndRepeated)
known_start_added = (refl, refl, refl)

pub known_end_added : (end_added (drawn (spot 0 10 10 ∷ []) []) (spot 0 10 10)
    ≡ Ok (drawn (spot 0 10 10 ∷ []) (spot 0 10 10 ∷ [])))
    × (end_added (drawn [] (spot 0 10 0 ∷ [])) (spot 0 10 0) ≡ Err kind.EndRepeated)
known_end_added = (refl, refl)

-- other pieces have their own
pub known_other_piece : (start_added (drawn (spot 0 10 10 ∷ []) []) (spot 0 30 0)
    ≡ Ok (drawn (spot 0 10 10 ∷ spot 0 30 0 ∷ []) []))
    × (start_added (drawn (spot 0 0 0 ∷ []) []) (spot 1 0 0)
    ≡ Ok (drawn (spot 0 0 0 ∷ spot 1 0 0 ∷ []) []))
known_other_piece = (refl, refl)

-- a start is one, and an end the other
pub known_walk_end_added : (walk_end_added true (drawn [] []) (spot 0 0 0) ≡ Ok (drawn (spot 0 0 0 ∷ []) []))
    × (walk_end_added false (drawn [] []) (spot 0 0 0) ≡ Ok (drawn [] (spot 0 0 0 ∷ [])))
known_walk_end_added = (refl, refl)
