-- The command `migrate`: a drawing is rewritten as version 2 of its text, in which lines are cut
-- where they meet. Costs count steps.
use Rattle.std.specs.Prelude.{◌≡◌, ℕ, List, length, Option, Some, None, Result, Ok, Err, bytes_eq, if◌then◌else◌}
use Rattle.drawing_text.specs.declared.draw_fault.DrawFault.{DrawFault}
use Rattle.drawing_text.specs.DrawingText.{drawing_as2}
use Rattle.drawing_text.specs.CanonicalTexts.{canonical_text2}
use Rattle.line_graph.specs.Drawings.{DrawingValue}
use Rattle.line_graph.specs.GrowingDrawings.{step_count}
use Rattle.line_graph.specs.Pieces.{ArePieces}
use Rattle.program_shell.specs.Plans.{Plan, accepts, reads, refuses}
use Rattle.program_shell.specs.Products.{ProductValue, one_file_product}
use Rattle.program_texts.specs.DrawingTexts.{draw_fault_text}
use Rattle.program_texts.specs.MigrationReports.{migrate_report}

-- The order of `migrate`: the drawing to read, and the file to write it to.
pub record MigrateOrder : Type 0 where
  pub input : List ℕ
  pub output : List ℕ

-- The order of `migrate`, from its names.
abbrev pub migrate_order : (input output : List ℕ) → MigrateOrder
migrate_order input output = record { input = input; output = output }

-- The order, if the names differ.
abbrev pub complete_migrate : (input output : List ℕ) → Option MigrateOrder
complete_migrate input output =
    if bytes_eq input output then None else Some (migrate_order input output)

-- The product of `migrate`: the canonical text of version 2, and a report with the number of lines,
-- the number of pieces and the cost.
pub record IsMigrated (output : List ℕ) (d : DrawingValue) (product : ProductValue) : Type 0 where
  pub pieces : List (List ℕ)
  pub pieces_are : ArePieces d pieces
  pub made : product ≡ one_file_product output (canonical_text2 d)
      (migrate_report (length d.lines) (length pieces) (step_count d.step d.lines))

-- The plan for the result of reading the drawing text as version 2: a drawing is accepted, and a
-- fault is refused.
abbrev pub migrate_read : MigrateOrder → Result DrawingValue DrawFault → Plan
migrate_read order (Ok d) = accepts (IsMigrated order.output d)
migrate_read order (Err fault) = refuses (draw_fault_text order.input fault)

-- The plan of `migrate`: read the drawing file, then write it as version 2.
abbrev pub migrate_plan : MigrateOrder → Plan
migrate_plan order = reads order.input (λ bytes. migrate_read order (drawing_as2 bytes))
