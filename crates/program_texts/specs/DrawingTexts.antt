-- The texts about a drawing for which an order is refused. A name is the bytes of a file name.
use Rattle.std.specs.Prelude.{ℕ, List, ◌++◌, codes, decimal}
use Rattle.line_graph.specs.declared.draw_kind.DrawKind.{DrawKind}
use Rattle.line_graph.specs.declared.draw_kind.DrawKind.TheVariants as kind
use Rattle.drawing_text.specs.declared.draw_fault.DrawFault.{DrawFault}
use Rattle.program_shell.specs.FileTexts.{text_about, text_at}
use Rattle.program_texts.specs.DesignTexts.{command_text}
use Rattle.stitch_trace.specs.declared.trace_fault.TraceFault.{TraceFault}
use Rattle.stitch_trace.specs.declared.trace_fault.TraceFault.TheVariants as trace

-- The name of a fault in a drawing. A refused drawing never has the fault `Memory`.
abbrev pub draw_kind_text : DrawKind → List ℕ
draw_kind_text kind.BadHeader = codes "not a redwork drawing"
draw_kind_text kind.BadWord = codes "word not understood"
draw_kind_text kind.BadNumber = codes "not a number"
draw_kind_text kind.OutOfRange = codes "number out of range"
draw_kind_text kind.FewPoints = codes "too few points"
draw_kind_text kind.RepeatedPoint = codes "point repeated"
draw_kind_text kind.EmptyBlock = codes "block without a line"
draw_kind_text kind.NoBlock = codes "no block"
draw_kind_text kind.TooManyLines = codes "more than 1024 lines"
draw_kind_text kind.TooManyPoints = codes "more than 65536 points"
draw_kind_text kind.TooManyBlocks = codes "more than 255 blocks"
draw_kind_text kind.TooMuchCost = codes "more than 200000 steps"
draw_kind_text kind.NoJunction = codes "not a junction"
draw_kind_text kind.EndRepeated = codes "start or end repeated"
draw_kind_text kind.Memory = codes "out of memory"

-- The text about a fault in a drawing text; its lines are numbered from 1.
abbrev pub draw_fault_text : List ℕ → DrawFault → List ℕ
draw_fault_text name fault = text_at name (codes "line") fault.number (draw_kind_text fault.kind)

-- The text about a step that exceeds the limit of the format with that ending, both in tenths of a
-- millimetre.
abbrev pub step_limit_text : List ℕ → (step limit : ℕ) → List ℕ → List ℕ
step_limit_text name step limit ending = name ++ (codes ": step " ++ (decimal step
    ++ (codes " is above " ++ (decimal limit ++ (codes ", the limit of " ++ ending)))))

-- The text about a design that has no traced drawing.
abbrev pub trace_fault_text : List ℕ → TraceFault → List ℕ
trace_fault_text name trace.NoLinks = text_about name (codes "nothing is sewn")
trace_fault_text name (trace.LinkTooLong number) =
    command_text name number (codes "link longer than 2047")
trace_fault_text name (trace.Limit why) = text_about name (draw_kind_text why)
trace_fault_text name trace.Memory = text_about name (codes "out of memory")
