-- Starts and ends in the order of their blocks, in which a text lists them.
use Rattle.std.specs.Prelude.{List, map}
use Rattle.std.specs.List.Sorted.{IsNonDecreasing}
use Rattle.line_sections.specs.declared.spot.Spot.{Spot}
use Rattle.line_graph.specs.Drawings.{DrawingValue}

-- Spots are in the order of their blocks.
abbrev pub AreInBlockOrder : List Spot → Type 0
AreInBlockOrder spots = IsNonDecreasing (map (λ spot. spot.block) spots)

-- The starts of a drawing are in the order of their blocks, and so are its ends.
pub record HasOrderedEnds (d : DrawingValue) : Type 0 where
  pub starts : AreInBlockOrder d.starts
  pub ends : AreInBlockOrder d.ends
