-- Spots that lines connect are those at ends of connected lines.
use Rattle.std.specs.Prelude.{◌≡◌, ℕ, true}
use Rattle.line_sections.specs.declared.spot.Spot.{Spot}
use Rattle.line_graph.specs.Drawings.{DrawingValue}
use Rattle.line_graph.specs.FirstLines.{IsLineEnd}
use Rattle.line_graph.specs.Pieces.{AreConnected}
use Rattle.line_graph.specs.WalkEnds.{are_connected_spots}

-- Two spots at ends of lines i and j are connected by lines exactly where the two lines are
-- connected.
pub record AreConnectedByLines (d : DrawingValue) (a b : Spot) (i j : ℕ) : Type 0 where
  pub led : are_connected_spots d.lines a b ≡ true → AreConnected d i j
  pub found : AreConnected d i j → are_connected_spots d.lines a b ≡ true

-- Spots at ends of two lines are connected exactly where the lines are.
abbrev pub SpotsAreConnected : Type 0
SpotsAreConnected = (d : DrawingValue) (a b : Spot) (i j : ℕ) → IsLineEnd d i a → IsLineEnd d j b
    → AreConnectedByLines d a b i j
