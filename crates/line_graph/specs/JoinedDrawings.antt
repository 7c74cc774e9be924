-- Joined drawings: no point inside a line is listed at another place of its block, and so lines
-- meet only at their ends. Joining a drawing replaces each line by its sections. Costs count steps.
use Rattle.std.specs.Prelude.{◌≡◌, Bool, true, nat_lt, Result, Ok, Err, length, if◌then◌else◌}
use Rattle.line_sections.specs.Sections.{all_sections, are_whole_lines}
use Rattle.line_graph.specs.declared.draw_kind.DrawKind.{DrawKind}
use Rattle.line_graph.specs.declared.draw_kind.DrawKind.TheVariants as kind
use Rattle.line_graph.specs.declared.limits.TheConstants.{MAX_LINES, MAX_POINTS}
use Rattle.line_graph.specs.Drawings.{DrawingValue, KeepsDrawingLimits}
use Rattle.line_graph.specs.GrowingDrawings.{point_count, step_count}

-- A joined drawing: its lines meet only at their ends, which means that no point inside a line is
-- listed twice in its block.
abbrev pub is_joined : DrawingValue → Bool
is_joined d = are_whole_lines d.lines

-- The drawing with its lines replaced by their sections, or the fault that there are too many lines
-- or points.
abbrev pub joined_drawing : DrawingValue → Result DrawingValue DrawKind
joined_drawing d =
    let sections = all_sections d.lines in
    if nat_lt MAX_LINES (length sections) then Err kind.TooManyLines
    else (if nat_lt MAX_POINTS (point_count sections) then Err kind.TooManyPoints
    else Ok (record d { lines = sections }))

-- The sections of a drawing cost as much as its lines.
abbrev pub SectionsKeepCost : Type 0
SectionsKeepCost = (d : DrawingValue) → step_count d.step (all_sections d.lines)
    ≡ step_count d.step d.lines

-- Joining a drawing that is joined already changes nothing.
abbrev pub JoinedDrawingsStay : Type 0
JoinedDrawingsStay = (d : DrawingValue) → KeepsDrawingLimits d → is_joined d ≡ true
    → joined_drawing d ≡ Ok d
