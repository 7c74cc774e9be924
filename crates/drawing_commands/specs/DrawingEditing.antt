-- The command `edit`: a drawing is read, edited, and written with its lines cut where they meet.
-- Edits are numbered from 1. Costs count steps.
use Rattle.std.specs.Prelude.{ℕ, ◌+◌, Bool, List, [], ◌∷◌, ◌++◌, Result, Ok, Err, codes, decimal, length}
use Rattle.drawing_edits.specs.declared.drawing_edit.DrawingEdit.{DrawingEdit}
use Rattle.drawing_edits.specs.declared.edit_fault.EditFault.{EditFault}
use Rattle.drawing_edits.specs.declared.edit_fault.EditFault.TheVariants as fault
use Rattle.drawing_edits.specs.EditedDrawings.{edited_drawing}
use Rattle.drawing_edits.specs.EditFaults.{edit_is_out_of_memory}
use Rattle.line_graph.specs.Drawings.{DrawingValue}
use Rattle.line_graph.specs.GrowingDrawings.{and_then, step_count}
use Rattle.line_graph.specs.Pieces.{ArePieces}
use Rattle.program_shell.specs.FileTexts.{text_at}
use Rattle.program_shell.specs.Plans.{Plan, accepts, refuses}
use Rattle.program_shell.specs.Products.{ProductValue}
use Rattle.program_texts.specs.DrawingTexts.{draw_kind_text}
use Rattle.program_texts.specs.MigrationReports.{migrate_report}
use Rattle.drawing_commands.specs.declared.bad_edit.BadEdit.{BadEdit}
use Rattle.drawing_commands.specs.declared.text_reading.TextRead.{TextRead}
use Rattle.drawing_commands.specs.CutProducts.{IsCutProduct}
use Rattle.drawing_commands.specs.EditComments.{comments_of_edits}
use Rattle.drawing_commands.specs.TextPlans.{text_plan}

-- The order of `edit`: the drawing to read, the file to write, and the edits in order.
pub record DrawingEditOrder : Type 0 where
  pub input : List ℕ
  pub output : List ℕ
  pub edits : List DrawingEdit

-- The order of `edit`, from its names and edits.
abbrev pub drawing_edit_order : (input output : List ℕ) → List DrawingEdit → DrawingEditOrder
drawing_edit_order input output edits = record { input = input; output = output; edits = edits }

-- The result of an edit, whose fault gets the edit's number.
abbrev pub at_edit : ℕ → Result DrawingValue EditFault → Result DrawingValue BadEdit
at_edit number (Ok d) = Ok d
at_edit number (Err why) = Err (record { number = number; fault = why })

-- The drawing after edits in order, the first of which has the given number. The first refused edit
-- determines the fault.
abbrev pub edits_applied : ℕ → List DrawingEdit → DrawingValue → Result DrawingValue BadEdit
edits_applied number [] d = Ok d
edits_applied number (one ∷ rest) d =
    and_then (at_edit number (edited_drawing one d)) (λ next. edits_applied (number + 1) rest next)

-- A bad edit is out of memory.
abbrev pub bad_edit_is_out_of_memory : BadEdit → Bool
bad_edit_is_out_of_memory bad = edit_is_out_of_memory bad.fault

-- The name of a fault of an edit. Pieces are numbered from 1.
abbrev pub edit_fault_text : EditFault → List ℕ
edit_fault_text (fault.Draw why) = draw_kind_text why
edit_fault_text fault.TwoBlocks = codes "two blocks list the point"
edit_fault_text (fault.NoPiece number) = codes "no piece " ++ decimal number
edit_fault_text fault.SamePiece = codes "both pieces are one"
edit_fault_text fault.OtherBlock = codes "pieces in different blocks"

-- The text about an edit that is refused.
abbrev pub bad_edit_text : List ℕ → BadEdit → List ℕ
bad_edit_text name bad = text_at name (codes "edit") bad.number (edit_fault_text bad.fault)

-- The product of `edit`: the edited drawing, written with its lines cut and with the comments of
-- what was read, and a report with the number of lines, the number of pieces and the cost.
pub record IsEdited (output : List ℕ) (edits : List DrawingEdit) (text : TextRead)
    (d : DrawingValue) (product : ProductValue) : Type 0 where
  pub pieces : List (List ℕ)
  pub pieces_are : ArePieces d pieces
  pub written : IsCutProduct output (comments_of_edits text edits d) d
      (migrate_report (length d.lines) (length pieces) (step_count d.step d.lines)) product

-- The plan for the result of the edits: a drawing is accepted, and a bad edit is refused.
abbrev pub edited_plan : DrawingEditOrder → TextRead → Result DrawingValue BadEdit → Plan
edited_plan order text (Ok d) = accepts (IsEdited order.output order.edits text d)
edited_plan order text (Err bad) = refuses (bad_edit_text order.input bad)

-- The plan for a drawing: it is edited.
abbrev pub edit_kept : DrawingEditOrder → TextRead → Plan
edit_kept order text = edited_plan order text (edits_applied 1 order.edits text.lines.drawing)

-- The plan of `edit`: read the drawing file, then write the edited drawing.
abbrev pub drawing_edit_plan : DrawingEditOrder → Plan
drawing_edit_plan order = text_plan order.input (edit_kept order)
