-- The command `look`: a report on the pieces of a drawing and on the places that were probably not
-- meant. The pieces are those that are sewn, the places are in the lines as they are drawn. So in
-- version 1, whose lines meet only at their ends, lines that both list a point inside count as
-- meeting there, as they do once the drawing is migrated.
use Rattle.std.specs.Prelude.{◌≡◌, ℕ, List, Result}
use Rattle.design_model.specs.Extents.{extent_of_points}
use Rattle.drawing_text.specs.declared.drawn_lines.DrawnLines.{DrawnLines}
use Rattle.drawing_text.specs.declared.draw_fault.DrawFault.{DrawFault}
use Rattle.drawing_text.specs.declared.lines_read.LinesRead.{LinesRead}
use Rattle.drawing_text.specs.DrawingLines.{lines_read}
use Rattle.line_graph.specs.Drawings.{DrawingValue}
use Rattle.line_graph.specs.declared.piece.Piece.{Piece}
use Rattle.line_graph.specs.PiecesOfDrawings.{ArePiecesOf}
use Rattle.line_meetings.specs.Meetings.{meetings_of_lines}
use Rattle.line_sections.specs.Lines.{points_of_lines}
use Rattle.piece_stitches.specs.PieceStitches.{stitches_of_pieces}
use Rattle.drawing_reports.specs.Spacings.{spacings_of_lines}
use Rattle.program_shell.specs.Plans.{Plan, accepts, reads}
use Rattle.program_shell.specs.Products.{ProductValue, report_product}
use Rattle.drawing_commands.specs.FaultTexts.{plan_after_reading}
use Rattle.drawing_reports.specs.LookTexts.{look_report}

-- The order of `look`: the drawing to read, and the gap in tenths of a millimetre.
pub record LookOrder : Type 0 where
  pub file : List ℕ
  pub gap : ℕ

-- The order of `look`, from its name and the gap.
abbrev pub look_order : List ℕ → ℕ → LookOrder
look_order file gap = record { file = file; gap = gap }

-- The product of `look`: a report on the size of the drawing and its pieces, with their stitches,
-- on where its lines should meet and don't, and on its short stitches.
pub record IsLook (gap : ℕ) (d : DrawingValue) (drawn : DrawnLines)
    (product : ProductValue) : Type 0 where
  pub pieces : List Piece
  pub pieces_are : ArePiecesOf d pieces
  pub made : product ≡ report_product (look_report
      (extent_of_points (points_of_lines drawn.drawing.lines)) pieces (stitches_of_pieces d pieces)
      (meetings_of_lines gap drawn.drawing.lines)
      (spacings_of_lines drawn.drawing.step drawn.drawing.lines))

-- The plan for the result of reading the drawing: it is accepted, and a fault is refused.
abbrev pub look_read : LookOrder → Result LinesRead DrawFault → Plan
look_read order =
    plan_after_reading order.file (λ read. accepts (IsLook order.gap read.drawing read.drawn))

-- The plan of `look`: read the drawing file, then print the report.
abbrev pub look_plan : LookOrder → Plan
look_plan order = reads order.file (λ bytes. look_read order (lines_read bytes))
