-- What the makers of drawings, of starts and of ends keep between two calls.
use Rattle.std.proofs.Common.{◌≡◌, ℕ, ◌==◌, ◌<◌, ◌≤◌, ◌≢◌, Bool, true, false, List, [], ◌∷◌, All, Contains, length, map, get_or, refl, arith, subst, true≢false}
use Rattle.std.specs.List.{list_any}
use Rattle.line_graph.proofs.DrawingNames.{AreInDifferentPieces, IsLine, IsMakerState, IsNonDecreasing, point_count, step_count, Spot, LineValue, DrawingValue, KeepsDrawingLimits, is_joined}
use Rattle.line_graph.specs.DrawingsOfParts.{drawing_of_parts}
use Rattle.line_graph.specs.EndsMakerInvariants.{AreChosen, IsEndsMakerState, label_at}
use Rattle.line_graph.specs.PieceLabels.{ArePieceLabels}
use Rattle.line_graph.specs.declared.chosen_spots.ChosenSpots.{ChosenSpots}
use Rattle.line_graph.specs.declared.drawing_parts.DrawingParts.{DrawingParts}
use Rattle.line_graph.proofs.NeedleFacts.{at}

-- each part stands in its own place
pub known_parts : (parts : DrawingParts) → ((drawing_of_parts parts).label ≡ parts.label.items)
    × ((drawing_of_parts parts).step ≡ parts.step) × ((drawing_of_parts parts).threads ≡ parts.threads.items)
    × ((drawing_of_parts parts).lines ≡ parts.lines.items) × ((drawing_of_parts parts).starts ≡ parts.starts.items)
    × ((drawing_of_parts parts).ends ≡ parts.ends.items)
known_parts parts = (refl, refl, refl, refl, refl, refl)

-- an angle of two lines, and a stroke elsewhere
abbrev spot : ℕ → Spot
spot x = record { block = 0; at = at x 0 }

abbrev line : ℕ → ℕ → LineValue
line from to = record { block = 0; points = at from 0 ∷ at to 0 ∷ [] }

abbrev lines : List LineValue
lines = line 0 10 ∷ line 10 25 ∷ line 50 60 ∷ []

abbrev labels : List ℕ
labels = 0 ∷ 0 ∷ 2 ∷ []

-- the label of a spot is that of the line that ends there
pub known_label : (label_at lines labels (spot 25) ≡ 0) × (label_at lines labels (spot 50) ≡ 2)
known_label = (refl, refl)

taken_at : (chosen : ChosenSpots) (spots : List Spot) (label : ℕ) → AreChosen lines labels chosen → chosen.spots.items ≡ spots
    → get_or chosen.taken.items label false ≡ list_any (λ s. label_at lines labels s == label) spots
taken_at chosen spots label are is =
    subst (λ (some : List Spot). get_or chosen.taken.items label false ≡ list_any (λ s. label_at lines labels s == label) some)
    is (are.each label)

-- with a spot at the angle's end, its label is taken, and that of the stroke is not
pub known_taken : (chosen : ChosenSpots) → AreChosen lines labels chosen → chosen.spots.items ≡ spot 25 ∷ []
    → (length chosen.taken.items ≡ 3) × (get_or chosen.taken.items 0 false ≡ true) × (get_or chosen.taken.items 2 false ≡ false)
known_taken chosen are is = (are.sized, taken_at chosen _ 0 are is, taken_at chosen _ 2 are is)

-- the angle's two ends are in one piece, so not both are chosen
pub known_twice : (chosen : ChosenSpots) → AreChosen lines labels chosen → chosen.spots.items ≡ spot 0 ∷ spot 25 ∷ [] → ⊥
known_twice chosen are is =
    true≢false ((subst (λ (some : List Spot). AreInDifferentPieces lines some) is are.apart).apart 0 1 (spot 0) (omega arith) (omega arith))

-- a maker of starts and ends has a joined drawing within its limits, its labels, and both tables
pub known_ends_maker : (d : DrawingValue) (found : List ℕ) (starts ends : ChosenSpots) → IsEndsMakerState d found starts ends
    → KeepsDrawingLimits d × (is_joined d ≡ true) × ArePieceLabels d found × AreChosen d.lines found starts × AreChosen d.lines found ends
known_ends_maker d found starts ends is = (is.limits, is.joined, is.labelled, is.starts_are, is.ends_are)

-- two blocks, of which the last has no line: three points, of 2 steps and of 1 step
abbrev grown : DrawingValue
grown = record {
  label = [];
  step = 10;
  threads = 5 ∷ 6 ∷ [];
  lines = record { block = 0; points = at 0 0 ∷ at 20 0 ∷ at 20 10 ∷ [] } ∷ [];
  starts = [];
  ends = [];
}

-- a maker of drawings counts points and steps, and knows that the last block is empty
pub known_counters : (empty : Bool) (points steps : ℕ) → IsMakerState grown empty points steps
    → (empty ≡ true) × (points ≡ 3) × (steps ≡ 3)
known_counters empty points steps is = (is.last_is, is.points_are, is.steps_are)

-- and keeps its drawing within the limits, without starts and ends
pub known_maker : (d : DrawingValue) (empty : Bool) (points steps : ℕ) → IsMakerState d empty points steps
    → (1 ≤ d.step) × (d.step ≤ 2047) × (length d.label ≤ 16) × All (λ byte. byte ≢ 32) d.label
    × (length d.threads ≤ 255) × All (λ thread. thread < 256) d.threads
    × (1 < length d.threads → Contains (map (λ (l : LineValue). l.block) d.lines) 0)
    × All (λ (l : LineValue). l.block < length d.threads) d.lines × IsNonDecreasing (map (λ (l : LineValue). l.block) d.lines)
    × All (λ (l : LineValue). IsLine l.points) d.lines × (length d.lines ≤ 1024) × (point_count d.lines ≤ 65536)
    × (step_count d.step d.lines ≤ 200000) × (d.starts ≡ []) × (d.ends ≡ [])
known_maker d empty points steps is = (
  is.head.step_from,
  is.head.step_to,
  is.head.label_ok.short,
  is.head.one_word,
  is.blocks.blocks_to,
  is.blocks.in_range,
  λ more. is.blocks.used 0 (omega (arith, more)),
  is.blocks.there,
  is.blocks.ordered,
  is.lines.each,
  is.lines.line_count,
  is.lines.points_to,
  is.lines.cost,
  is.no_ends.starts,
  is.no_ends.ends,
)
