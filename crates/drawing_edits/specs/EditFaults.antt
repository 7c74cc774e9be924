-- The faults of edits of a drawing.
use Rattle.std.specs.Prelude.{Bool, false, Result, Ok, Err}
use Rattle.drawing_edits.specs.declared.edit_fault.EditFault.{EditFault}
use Rattle.drawing_edits.specs.declared.edit_fault.EditFault.TheVariants as fault
use Rattle.line_graph.specs.declared.draw_kind.DrawKind.{DrawKind}
use Rattle.line_graph.specs.Drawings.{DrawingValue}
use Rattle.line_graph.specs.GrowingDrawings.{draw_is_out_of_memory}

-- A fault is out of memory: memory could not be allocated.
abbrev pub edit_is_out_of_memory : EditFault → Bool
edit_is_out_of_memory (fault.Draw why) = draw_is_out_of_memory why
edit_is_out_of_memory other = false

-- The edited drawing, or the fault that the edited lines, starts and ends are no drawing.
abbrev pub edit_answer : Result DrawingValue DrawKind → Result DrawingValue EditFault
edit_answer (Ok d) = Ok d
edit_answer (Err why) = Err (fault.Draw why)
