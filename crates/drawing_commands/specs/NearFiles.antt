-- The command `near`: the pieces of each block are sewn in an order with little travel. The drawing
-- is written with its lines cut where they meet.
use Rattle.std.specs.Prelude.{ℕ, List, ◌++◌, codes, decimal}
use Rattle.design_model.specs.TextLines.{newline}
use Rattle.drawing_comments.specs.OrderedComments.{comments_of_sections}
use Rattle.drawing_comments.specs.declared.text_comments.TextComments.{TextComments}
use Rattle.line_graph.specs.Drawings.{DrawingValue}
use Rattle.near_pieces.specs.declared.near_drawing.NearDrawing.{NearDrawing}
use Rattle.near_pieces.specs.NearDrawings.{IsNear}
use Rattle.program_shell.specs.Plans.{Plan, accepts}
use Rattle.program_shell.specs.Products.{ProductValue}
use Rattle.drawing_reports.specs.PlaceTexts.{tenths_text}
use Rattle.drawing_commands.specs.declared.text_reading.TextRead.{TextRead}
use Rattle.drawing_commands.specs.CutProducts.{IsCutProduct}
use Rattle.drawing_commands.specs.TextPlans.{text_plan}

-- The order of `near`: the drawing to read, and the file to write.
pub record NearFileOrder : Type 0 where
  pub input : List ℕ
  pub output : List ℕ

-- The order of `near`, from its names.
abbrev pub near_file_order : (input output : List ℕ) → NearFileOrder
near_file_order input output = record { input = input; output = output }

-- The report of `near`: the travel before and after, in tenths of a millimetre, and the number of
-- pieces.
abbrev pub near_report : (before after pieces : ℕ) → List ℕ
near_report before after pieces = codes "travel " ++ (tenths_text before ++ (codes " to "
    ++ (tenths_text after ++ (codes " pieces " ++ (decimal pieces ++ newline)))))

-- The comments of what was read, before the lines of the near drawing: these are the sections of
-- the lines as they are drawn, in another order.
abbrev pub near_comments : TextRead → DrawingValue → TextComments
near_comments text near = comments_of_sections text.comments text.lines.drawn.drawing.lines
    text.lines.drawing.lines near.lines

-- The product of `near`: the near drawing, written with its lines cut, and the report.
pub record IsNearProduct (output : List ℕ) (text : TextRead) (product : ProductValue) : Type 0 where
  pub found : NearDrawing
  pub near : IsNear text.lines.drawing found
  pub written : IsCutProduct output (near_comments text found.drawing) found.drawing
      (near_report found.before found.after found.pieces) product

-- The plan for a drawing: it is accepted.
abbrev pub near_kept : NearFileOrder → TextRead → Plan
near_kept order text = accepts (IsNearProduct order.output text)

-- The plan of `near`: read the drawing file, then write the near drawing.
abbrev pub near_plan : NearFileOrder → Plan
near_plan order = text_plan order.input (near_kept order)
