-- The command `free`: pieces without start and end get the best ones. The lines are written whole,
-- as they were drawn.
use Rattle.std.specs.Prelude.{ℕ, List, Result, Ok, Err}
use Rattle.drawing_comments.specs.declared.text_comments.TextComments.{TextComments}
use Rattle.free_ends.specs.declared.freed_drawing.FreedDrawing.{FreedDrawing}
use Rattle.free_ends.specs.declared.joined_lines.JoinedLines.{JoinedLines}
use Rattle.free_ends.specs.FreedDrawings.{IsFreed, lines_joined}
use Rattle.line_graph.specs.declared.draw_kind.DrawKind.{DrawKind}
use Rattle.line_graph.specs.Drawings.{DrawingValue}
use Rattle.program_shell.specs.FileTexts.{text_about}
use Rattle.program_shell.specs.Plans.{Plan, accepts, refuses}
use Rattle.program_shell.specs.Products.{ProductValue}
use Rattle.program_texts.specs.DrawingTexts.{draw_kind_text}
use Rattle.drawing_reports.specs.FreeTexts.{free_report}
use Rattle.drawing_commands.specs.declared.text_reading.TextRead.{TextRead}
use Rattle.drawing_commands.specs.TextPlans.{text_plan}
use Rattle.drawing_commands.specs.WholeProducts.{IsWholeProduct}

-- The order of `free`: the drawing to read, and the file to write.
pub record FreeOrder : Type 0 where
  pub input : List ℕ
  pub output : List ℕ

-- The order of `free`, from its names.
abbrev pub free_order : (input output : List ℕ) → FreeOrder
free_order input output = record { input = input; output = output }

-- The product of `free`: the lines as they are drawn, with the best ends of the pieces that had
-- none, and a report on them. Each piece has those that are found of it (`IsFreed: ends`).
pub record IsFreeProduct (output : List ℕ) (comments : TextComments) (drawn before : DrawingValue)
    (product : ProductValue) : Type 0 where
  pub freed : FreedDrawing
  pub is : IsFreed drawn before freed
  pub written : IsWholeProduct output comments drawn freed.joined
      (free_report freed.pieces freed.found) product

-- The plan for joined lines: they are freed, and a fault is refused.
abbrev pub free_made : FreeOrder → TextComments → Result JoinedLines DrawKind → Plan
free_made order comments (Ok lines) =
    accepts (IsFreeProduct order.output comments lines.drawn lines.joined)
free_made order comments (Err why) = refuses (text_about order.input (draw_kind_text why))

-- The plan for a drawing and its lines as they are drawn: these are joined, with the starts and
-- ends of the drawing.
abbrev pub free_kept : FreeOrder → TextRead → Plan
free_kept order text = free_made order text.comments
    (lines_joined text.lines.drawn.drawing text.lines.drawing.starts text.lines.drawing.ends)

-- The plan of `free`: read the drawing file, then write the freed drawing.
abbrev pub free_plan : FreeOrder → Plan
free_plan order = text_plan order.input (free_kept order)
