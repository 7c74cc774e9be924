-- Spots where points stay.
use Rattle.std.specs.Prelude.{Bool, List}
use Rattle.std.specs.List.{list_any}
use Rattle.line_sections.specs.declared.spot.Spot.{Spot}
use Rattle.line_sections.specs.Spots.{is_same_spot}

-- A spot is among some.
abbrev pub is_among_spots : List Spot → Spot → Bool
is_among_spots spots s = list_any (is_same_spot s) spots
