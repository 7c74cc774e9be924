-- The drawing of a text, and its lines as they are drawn.
use Rattle.std.specs.Prelude.{ℕ, List, Result, Ok}
use Rattle.line_graph.specs.Drawings.{DrawingValue}
use Rattle.line_graph.specs.GrowingDrawings.{and_then}
use Rattle.line_graph.specs.JoinedDrawings.{joined_drawing}
use Rattle.drawing_text.specs.declared.draw_fault.DrawFault.{DrawFault}
use Rattle.drawing_text.specs.declared.drawn_lines.DrawnLines.{DrawnLines}
use Rattle.drawing_text.specs.declared.lines_read.LinesRead.{LinesRead}
use Rattle.drawing_text.specs.declared.version.Version.{Version}
use Rattle.drawing_text.specs.declared.version.Version.TheVariants as version
use Rattle.drawing_text.specs.DrawingText.{at_line, drawing_of, drawing_with_ends}
use Rattle.drawing_text.specs.DrawnTexts.{lines_of}

-- The drawing of lines as they are drawn, by the version of their text, or its first fault. The
-- text ends before line `number`, and line `opened` opened its last block.
abbrev pub drawing_of_lines : Version → (number opened : ℕ) → DrawnLines
    → Result DrawingValue DrawFault
drawing_of_lines version.One number opened lines = Ok lines.drawing
drawing_of_lines version.Two number opened lines =
    at_line number opened (joined_drawing lines.drawing)
drawing_of_lines version.Three number opened lines =
    and_then (at_line number opened (joined_drawing lines.drawing)) (λ d.
    drawing_with_ends d lines.ends)

-- The drawing that a text describes, and its lines as they are drawn, or the first fault.
abbrev pub lines_read : List ℕ → Result LinesRead DrawFault
lines_read text = and_then (drawing_of text) (λ d. and_then (lines_of text) (λ drawn.
    Ok (record { drawing = d; drawn = drawn })))
