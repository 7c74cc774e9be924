-- What is drawn again as it is: the lines of a valid drawing, and all of one that is joined.
use Rattle.std.specs.Prelude.{◌≡◌, ◌<◌, [], map, length, All, Ok}
use Rattle.std.specs.List.Sorted.{IsNonDecreasing}
use Rattle.line_graph.specs.Drawings.{DrawingValue, KeepsDrawingLimits}
use Rattle.line_graph.specs.GrowingLimits.{IsValidJoinedDrawing}
use Rattle.drawing_edits.specs.RedrawnDrawings.{drawn_lines, redrawn}

-- Lines within the limits of a drawing are drawn again as they are, without starts and ends.
abbrev pub LinesWithinLimitsAreDrawn : Type 0
LinesWithinLimitsAreDrawn = (d : DrawingValue) → KeepsDrawingLimits d
    → drawn_lines d ≡ Ok (record d { starts = []; ends = [] })

-- Lines in the order of their blocks, each in a block that there is, are drawn as they are if they
-- can be drawn.
abbrev pub LinesInOrderAreDrawn : Type 0
LinesInOrderAreDrawn = (d drawn : DrawingValue) → IsNonDecreasing (map (λ line. line.block) d.lines)
    → All (λ line. line.block < length d.threads) d.lines → drawn_lines d ≡ Ok drawn
    → drawn ≡ record d { starts = []; ends = [] }

-- A valid joined drawing is drawn again as it is, with its starts and ends in any order.
abbrev pub ValidDrawingsAreRedrawn : Type 0
ValidDrawingsAreRedrawn = (d : DrawingValue) → IsValidJoinedDrawing d → redrawn d ≡ Ok d
