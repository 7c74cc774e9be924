-- Starts and ends, worked out by hand: an angle of two lines and a stroke in one block, a stroke at the angle's first
-- point in the next one.
use Rattle.std.proofs.Common.{◌≡◌, ℕ, pos, true, false, Bool, List, [], ◌∷◌, ◌++◌, Some, None, refl}
use Rattle.line_graph.proofs.Names.{Point, Spot, LineValue, DrawingValue, IsLineEnd, Pass, odd_junctions, piece_graph, is_fitting_walk, AreConnected, are_connected_spots, SpotsAreConnected}

abbrev at : ℕ → ℕ → Point
at x y = record { x = pos x; y = pos y }

abbrev spot : ℕ → ℕ → ℕ → Spot
spot block x y = record { block = block; at = at x y }

abbrev line : ℕ → List Point → LineValue
line block points = record { block = block; points = points }

abbrev drawn : List Spot → List Spot → DrawingValue
drawn starts ends = record {
  label = [];
  step = 10;
  threads = 5 ∷ 6 ∷ [];
  lines = line 0 (at 0 0 ∷ at 5 5 ∷ at 10 0 ∷ []) ∷ line 0 (at 30 0 ∷ at 40 0 ∷ []) ∷ line 0 (at 10 0 ∷ at 10 10 ∷ [])
      ∷ line 1 (at 0 0 ∷ at 10 0 ∷ []) ∷ [];
  starts = starts;
  ends = ends;
}

-- spots at ends of two lines are connected exactly where the lines are
pub known_connected : SpotsAreConnected → (d : DrawingValue) (a b : Spot) (i j : ℕ) → IsLineEnd d i a → IsLineEnd d j b
    → (are_connected_spots d.lines a b ≡ true → AreConnected d i j) × (AreConnected d i j → are_connected_spots d.lines a b ≡ true)
known_connected law d a b i j at_a at_b = let is = law d a b i j at_a at_b in (is.led, is.found)

-- a piece has the start and the end that are its own, by their numbers
pub known_piece : piece_graph (drawn (spot 1 0 0 ∷ spot 0 10 10 ∷ []) (spot 0 30 0 ∷ spot 0 0 0 ∷ [])) (0 ∷ 2 ∷ []) ≡ record {
  block = 0;
  lines = 0 ∷ 2 ∷ [];
  junctions = at 0 0 ∷ at 10 0 ∷ at 10 10 ∷ [];
  edges = record { a = 0; b = 1; cost = 2 } ∷ record { a = 1; b = 2; cost = 1 } ∷ [];
  degrees = 1 ∷ 2 ∷ 1 ∷ [];
  start = Some 2;
  end = Some 0;
}
known_piece = refl

-- and none where no other is its own
pub known_stroke : (piece_graph (drawn (spot 0 0 0 ∷ []) []) (3 ∷ [])).start ≡ None
known_stroke = refl

-- the angle and the stroke at its end with those starts and ends, and whether a walk fits it
abbrev goes : List Spot → List Spot → List Pass → Bool
goes starts ends walk = is_fitting_walk (piece_graph (drawn starts ends) (0 ∷ 2 ∷ [])) walk

abbrev pass : ℕ → Bool → Pass
pass line back = record { line = line; back = back }

-- both lines back lead from the far end of the stroke to where the angle begins, both forth the other way
abbrev home : List Pass
home = pass 2 true ∷ pass 0 true ∷ []

abbrev out : List Pass
out = pass 0 false ∷ pass 2 false ∷ []

-- a walk begins at the start and ends at the end
pub known_ways : (goes (spot 0 10 10 ∷ []) (spot 0 0 0 ∷ []) home ≡ true) × (goes (spot 0 10 10 ∷ []) (spot 0 0 0 ∷ []) out ≡ false)
    × (goes (spot 0 10 10 ∷ []) (spot 0 0 0 ∷ []) (home ++ out) ≡ false)
known_ways = (refl, refl, refl)

-- with one of them it begins and ends there, and with none where it likes
pub known_one_start : (goes (spot 0 10 10 ∷ []) [] (home ++ out) ≡ true) × (goes (spot 0 10 10 ∷ []) [] (out ++ home) ≡ false)
    × (goes (spot 0 10 10 ∷ []) [] home ≡ false)
known_one_start = (refl, refl, refl)

pub known_one_end : (goes [] (spot 0 10 10 ∷ []) (home ++ out) ≡ true) × (goes [] (spot 0 10 10 ∷ []) (out ++ home) ≡ false)
    × (goes [] (spot 0 10 10 ∷ []) out ≡ false)
known_one_end = (refl, refl, refl)

pub known_closed : (goes [] [] (out ++ home) ≡ true) × (goes [] [] out ≡ false)
known_closed = (refl, refl)

-- start and end change from odd to even or back where both are given and differ
pub known_odd : (odd_junctions (piece_graph (drawn (spot 0 10 10 ∷ []) (spot 0 0 0 ∷ [])) (0 ∷ 2 ∷ [])) ≡ [])
    × (odd_junctions (piece_graph (drawn (spot 0 10 10 ∷ []) (spot 0 10 0 ∷ [])) (0 ∷ 2 ∷ [])) ≡ 0 ∷ 1 ∷ [])
    × (odd_junctions (piece_graph (drawn (spot 0 10 10 ∷ []) []) (0 ∷ 2 ∷ [])) ≡ 0 ∷ 2 ∷ [])
known_odd = (refl, refl, refl)

-- the spot of another block has the number of no junction here
pub known_other : (piece_graph (drawn (spot 1 0 0 ∷ []) []) (0 ∷ 2 ∷ [])).start ≡ None
known_other = refl
