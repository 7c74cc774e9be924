-- Invariants of `EndsMaker`, which adds starts and ends to a drawing. No public clause cites this
-- file.
use Rattle.std.specs.Prelude.{◌≡◌, ℕ, ◌==◌, true, false, List, length, get_or}
use Rattle.std.specs.List.{list_any, position_or_len}
use Rattle.line_sections.specs.declared.spot.Spot.{Spot}
use Rattle.line_sections.specs.Lines.{LineValue}
use Rattle.line_graph.specs.declared.chosen_spots.ChosenSpots.{ChosenSpots}
use Rattle.line_graph.specs.Drawings.{DrawingValue, KeepsDrawingLimits}
use Rattle.line_graph.specs.PieceLabels.{ArePieceLabels}
use Rattle.line_graph.specs.JoinedDrawings.{is_joined}
use Rattle.line_graph.specs.WalkEnds.{AreInDifferentPieces, has_end_at_spot}

-- The label of the first line that has an end at a spot. Lines have equal labels exactly where they
-- are in one piece.
abbrev pub label_at : List LineValue → List ℕ → Spot → ℕ
label_at lines labels spot = get_or labels (position_or_len (has_end_at_spot spot) lines) 0

-- Chosen junctions: no two are in one piece, and the table `taken` records for which labels there
-- is one.
pub record AreChosen (lines : List LineValue) (labels : List ℕ) (chosen : ChosenSpots)
    : Type 0 where
  pub sized : length chosen.taken.items ≡ length lines
  pub apart : AreInDifferentPieces lines chosen.spots.items
  pub each : (label : ℕ) → get_or chosen.taken.items label false
      ≡ list_any (λ spot. label_at lines labels spot == label) chosen.spots.items

-- The state of an `EndsMaker`: a joined drawing within its limits, the labels of its lines, and its
-- starts and ends so far.
pub record IsEndsMakerState (d : DrawingValue) (labels : List ℕ) (starts ends : ChosenSpots)
    : Type 0 where
  pub limits : KeepsDrawingLimits d
  pub joined : is_joined d ≡ true
  pub labelled : ArePieceLabels d labels
  pub starts_are : AreChosen d.lines labels starts
  pub ends_are : AreChosen d.lines labels ends
