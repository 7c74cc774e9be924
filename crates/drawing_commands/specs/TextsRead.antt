-- What is read of the text of a drawing: the drawing, its lines as they are drawn, and its
-- comments.
use Rattle.std.specs.Prelude.{ℕ, List, Result, Ok}
use Rattle.drawing_comments.specs.CommentedTexts.{comments_of}
use Rattle.drawing_text.specs.declared.draw_fault.DrawFault.{DrawFault}
use Rattle.drawing_text.specs.DrawingLines.{lines_read}
use Rattle.line_graph.specs.GrowingDrawings.{and_then}
use Rattle.drawing_commands.specs.declared.text_reading.TextRead.{TextRead}

-- What is read of a text, or its first fault.
abbrev pub text_read : List ℕ → Result TextRead DrawFault
text_read text = and_then (lines_read text) (λ read.
    Ok (record { lines = read; comments = comments_of text }))
