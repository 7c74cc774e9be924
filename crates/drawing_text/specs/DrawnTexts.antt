-- The lines of a text as they are drawn, before any is cut where lines meet, or the first fault of
-- the lines. Lines of the text are numbered from 1.
use Rattle.std.specs.Prelude.{ℕ, ◌+◌, List, [], ◌∷◌, Result, Ok}
use Rattle.design_model.specs.OutOfMemory.{IsSpecified}
use Rattle.line_graph.specs.Drawings.{DrawingValue}
use Rattle.line_graph.specs.GrowingDrawings.{and_then, finished_drawing}
use Rattle.drawing_text.specs.declared.draft.DrawingDraft.{DrawingDraft}
use Rattle.drawing_text.specs.declared.draw_fault.DrawFault.{DrawFault}
use Rattle.drawing_text.specs.declared.drawn_lines.DrawnLines.{DrawnLines}
use Rattle.drawing_text.specs.declared.version.Version.{Version}
use Rattle.drawing_text.specs.DrawingText.{at_line, body_of_text, draw_fault_is_out_of_memory}
use Rattle.drawing_text.specs.TextLines.{draft_after_words, empty_draft}

-- The lines of a complete draft, or its fault, where the text ends before line `number`.
abbrev pub lines_of_draft : Version → ℕ → DrawingDraft → Result DrawnLines DrawFault
lines_of_draft version number draft =
    and_then (at_line number draft.opened (finished_drawing draft.drawing)) (λ d.
    Ok (record { version = version; drawing = d; ends = draft.ends }))

-- The lines of a draft and the remaining text lines, from line `number` on, or the first fault.
abbrev pub lines_after : Version → ℕ → DrawingDraft → List (List (List ℕ))
    → Result DrawnLines DrawFault
lines_after version number draft [] = lines_of_draft version number draft
lines_after version number draft (words ∷ rest) =
    and_then (at_line number draft.opened (draft_after_words version number draft words)) (λ next.
    lines_after version (number + 1) next rest)

-- The lines that a text describes as they are drawn, or the first fault of them.
abbrev pub lines_of : List ℕ → Result DrawnLines DrawFault
lines_of text = and_then (body_of_text text) (λ body.
    lines_after body.version (body.header + 1) empty_draft body.lines)

-- The drawing of the lines of a text as they are drawn, or the first fault of them.
abbrev pub drawing_as_drawn : List ℕ → Result DrawingValue DrawFault
drawing_as_drawn text = and_then (lines_of text) (λ lines. Ok lines.drawing)

-- The result of reading lines equals the specified one, or is out of memory.
abbrev pub ReadsLines : Result DrawnLines DrawFault → Result DrawnLines DrawFault → Type 0
ReadsLines said result = IsSpecified draw_fault_is_out_of_memory said result
