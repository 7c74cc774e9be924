-- Spaced drawings. A spaced drawing has the label, the step and the threads of the
-- drawing before, and its lines without the points that are left out.
use Rattle.std.specs.Prelude.{List, Result, Ok}
use Rattle.drawing_edits.specs.RedrawnDrawings.{drawn_lines, with_starts_and_ends}
use Rattle.line_graph.specs.declared.draw_kind.DrawKind.{DrawKind}
use Rattle.line_graph.specs.Drawings.{DrawingValue}
use Rattle.line_graph.specs.GrowingDrawings.{and_then}
use Rattle.line_graph.specs.JoinedDrawings.{joined_drawing}
use Rattle.line_sections.specs.declared.spot.Spot.{Spot}
use Rattle.spaced_lines.specs.declared.spaced_drawing.SpacedDrawing.{SpacedDrawing}
use Rattle.spaced_lines.specs.declared.spacing_rule.SpacingLimits.{SpacingLimits}
use Rattle.spaced_lines.specs.SpacedLines.{spaced_lines}
use Rattle.spaced_lines.specs.SpacingRules.{rule_of}

-- A drawing with its spaced lines.
abbrev pub with_lines_spaced : SpacingLimits → DrawingValue → DrawingValue
with_lines_spaced limits d = record d { lines = spaced_lines (rule_of limits d.step) d.lines }

-- The spaced drawing of lines as they are drawn, or its fault.
abbrev pub with_spaced_lines : SpacingLimits → DrawingValue → Result DrawingValue DrawKind
with_spaced_lines limits drawn = drawn_lines (with_lines_spaced limits drawn)

-- A spaced drawing as it is drawn, with the same drawing joined, or the fault of that one.
abbrev pub spaced_and_joined : DrawingValue → Result DrawingValue DrawKind
    → Result SpacedDrawing DrawKind
spaced_and_joined spaced joined =
    and_then joined (λ whole. Ok (record { drawn = spaced; joined = whole }))

-- The spaced drawing of lines as they are drawn and of starts and ends, or its fault.
abbrev pub space_of : SpacingLimits → DrawingValue → (starts ends : List Spot)
    → Result SpacedDrawing DrawKind
space_of limits drawn starts ends = and_then (with_spaced_lines limits drawn) (λ spaced.
    spaced_and_joined spaced
    (and_then (joined_drawing spaced) (λ joined. with_starts_and_ends joined starts ends)))
