-- The drawing that is drawn again from the label, the step, the threads, the lines, the starts and
-- the ends of a value, or the first fault. A valid joined drawing is drawn again as it is.
use Rattle.std.specs.Prelude.{◌≡◌, ℕ, ◌+◌, ◌==◌, Bool, true, false, List, [], ◌∷◌, Result, Ok, Err}
use Rattle.design_model.specs.declared.point.Point.{Point}
use Rattle.design_model.specs.OutOfMemory.{IsSpecified}
use Rattle.line_graph.specs.declared.draw_kind.DrawKind.{DrawKind}
use Rattle.line_graph.specs.Drawings.{DrawingValue}
use Rattle.line_graph.specs.GrowingDrawings.{and_then, block_added, draw_is_out_of_memory, empty_drawing, finished_drawing, line_added}
use Rattle.line_graph.specs.JoinedDrawings.{joined_drawing}
use Rattle.line_graph.specs.WalkEnds.{walk_end_added}
use Rattle.line_sections.specs.declared.spot.Spot.{Spot}
use Rattle.line_sections.specs.Lines.{LineValue}

-- The drawing with one more line in its last block where the flag is true, or the first fault of
-- that line.
abbrev pub line_added_if : Bool → DrawingValue → List Point → Result DrawingValue DrawKind
line_added_if true d points = line_added d points
line_added_if false d points = Ok d

-- The drawing with those lines of a list in its last block that have the given block, or the first
-- fault of one.
abbrev pub with_lines_of : ℕ → DrawingValue → List LineValue → Result DrawingValue DrawKind
with_lines_of block d [] = Ok d
with_lines_of block d (line ∷ rest) =
    and_then (line_added_if (line.block == block) d line.points) (λ next.
    with_lines_of block next rest)

-- The drawing with further blocks of the given threads, from the given block on, and their lines,
-- or the first fault.
abbrev pub with_blocks : DrawingValue → ℕ → List ℕ → List LineValue → Result DrawingValue DrawKind
with_blocks d block [] lines = Ok d
with_blocks d block (thread ∷ rest) lines =
    and_then (and_then (block_added d thread) (λ opened. with_lines_of block opened lines)) (λ next.
    with_blocks next (block + 1) rest lines)

-- The drawing with further starts where the flag is true, else with further ends, or the first
-- fault of one.
abbrev pub with_walk_ends : Bool → DrawingValue → List Spot → Result DrawingValue DrawKind
with_walk_ends is_start d [] = Ok d
with_walk_ends is_start d (spot ∷ rest) =
    and_then (walk_end_added is_start d spot) (λ next. with_walk_ends is_start next rest)

-- The drawing of the label, the step, the threads and the lines of a value, before its lines are
-- joined, or the first fault.
abbrev pub drawn_lines : DrawingValue → Result DrawingValue DrawKind
drawn_lines d = and_then (with_blocks (empty_drawing d.label d.step) 0 d.threads d.lines)
    finished_drawing

-- The joined drawing of the label, the step, the threads and the lines of a value, or the first
-- fault.
abbrev pub redrawn_lines : DrawingValue → Result DrawingValue DrawKind
redrawn_lines d = and_then (drawn_lines d) joined_drawing

-- A drawing with the given starts and then the given ends, or the first fault.
abbrev pub with_starts_and_ends : DrawingValue → (starts ends : List Spot)
    → Result DrawingValue DrawKind
with_starts_and_ends d starts ends =
    and_then (with_walk_ends true d starts) (λ started. with_walk_ends false started ends)

-- The joined drawing that is drawn from the parts of a value, or the first fault.
abbrev pub redrawn : DrawingValue → Result DrawingValue DrawKind
redrawn d = and_then (redrawn_lines d) (λ joined. with_starts_and_ends joined d.starts d.ends)

-- A call adds to a value what is specified. An error is the specified one, or out of memory.
abbrev pub AddsAsSpecified : {A T : Type 0} → Result A DrawKind → Result T DrawKind → A → Type 0
AddsAsSpecified said (Ok _) new = said ≡ Ok new
AddsAsSpecified said (Err why) new = IsSpecified draw_is_out_of_memory said (Err why)
