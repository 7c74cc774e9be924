-- The command `space`: a drawing is written without the points for which one stitch stands. Its
-- lines are written whole, as they were drawn, with its starts and ends. Costs count steps.
use Rattle.std.specs.Prelude.{ℕ, List, length, Result, Ok, Err}
use Rattle.spaced_lines.specs.declared.spaced_drawing.SpacedDrawing.{SpacedDrawing}
use Rattle.spaced_lines.specs.declared.spacing_rule.SpacingLimits.{SpacingLimits}
use Rattle.spaced_lines.specs.SpacedDrawings.{space_of}
use Rattle.drawing_comments.specs.declared.text_comments.TextComments.{TextComments}
use Rattle.line_graph.specs.declared.draw_kind.DrawKind.{DrawKind}
use Rattle.line_graph.specs.declared.piece.Piece.{Piece}
use Rattle.line_graph.specs.Drawings.{DrawingValue}
use Rattle.line_graph.specs.PiecesOfDrawings.{ArePiecesOf}
use Rattle.program_shell.specs.FileTexts.{text_about}
use Rattle.program_shell.specs.Plans.{Plan, accepts, refuses}
use Rattle.program_shell.specs.Products.{ProductValue}
use Rattle.program_texts.specs.DrawingTexts.{draw_kind_text}
use Rattle.drawing_reports.specs.SpaceTexts.{space_report}
use Rattle.drawing_commands.specs.declared.text_reading.TextRead.{TextRead}
use Rattle.drawing_commands.specs.TextPlans.{text_plan}
use Rattle.drawing_commands.specs.WholeProducts.{IsWholeProduct}

-- The order of `space`: what is given of the rule, the drawing to read, and the file to write.
pub record SpaceOrder : Type 0 where
  pub limits : SpacingLimits
  pub input : List ℕ
  pub output : List ℕ

-- The order of `space`, from its limits and its names.
abbrev pub space_order : SpacingLimits → (input output : List ℕ) → SpaceOrder
space_order limits input output = record { limits = limits; input = input; output = output }

-- The product of `space`: the spaced lines, written whole, and a report on them and on the lines
-- before. The pieces are those that are sewn.
pub record IsSpaceProduct (output : List ℕ) (comments : TextComments) (before : DrawingValue)
    (spaced : SpacedDrawing) (product : ProductValue) : Type 0 where
  pub pieces : List Piece
  pub pieces_are : ArePiecesOf spaced.joined pieces
  pub written : IsWholeProduct output comments spaced.drawn spaced.joined
      (space_report before spaced.drawn (length pieces)) product

-- The plan for lines as they are drawn and their spaced drawing: it is accepted, and a fault is
-- refused.
abbrev pub space_made : SpaceOrder → TextComments → DrawingValue → Result SpacedDrawing DrawKind
    → Plan
space_made order comments drawn (Ok spaced) =
    accepts (IsSpaceProduct order.output comments drawn spaced)
space_made order comments drawn (Err why) = refuses (text_about order.input (draw_kind_text why))

-- The plan for a drawing and its lines as they are drawn: these are spaced, with the starts and
-- ends of the drawing.
abbrev pub space_kept : SpaceOrder → TextRead → Plan
space_kept order text = space_made order text.comments text.lines.drawn.drawing
    (space_of order.limits text.lines.drawn.drawing text.lines.drawing.starts
    text.lines.drawing.ends)

-- The plan of `space`: read the drawing file, then write the spaced drawing.
abbrev pub space_plan : SpaceOrder → Plan
space_plan order = text_plan order.input (space_kept order)
