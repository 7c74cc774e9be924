-- The command `trace`: the drawing of what a design sews.
use Rattle.std.specs.Prelude.{◌≡◌, ℕ, List, Option, Some, None, Result, Ok, Err, bytes_eq, if◌then◌else◌}
use Rattle.drawing_text.specs.CanonicalTexts.{canonical_text2}
use Rattle.format_traits.specs.declared.fault.ReadFault.{ReadFault}
use Rattle.format_traits.specs.declared.loaded.Loaded.{Loaded}
use Rattle.format_traits.specs.Meanings.{Meaning}
use Rattle.line_graph.specs.Drawings.{DrawingValue}
use Rattle.program_texts.specs.TracingReports.{tracing_report}
use Rattle.stitch_trace.specs.declared.trace_fault.TraceFault.{TraceFault}
use Rattle.stitch_trace.specs.Traces.{traced}
use Rattle.program_shell.specs.Plans.{Plan, accepts, reads, refuses}
use Rattle.program_shell.specs.Products.{ProductValue, one_file_product}
use Rattle.program_shell.specs.FileTexts.{read_fault_text}
use Rattle.program_texts.specs.DrawingTexts.{trace_fault_text}

-- The order of `trace`: the design to read, the drawing to write, and the format of the design.
pub record TraceOrder : Type 0 where
  pub file : List ℕ
  pub drawing : List ℕ
  pub format : Meaning

-- The order of `trace`, from its names and the format.
abbrev pub trace_order : (file drawing : List ℕ) → Meaning → TraceOrder
trace_order file drawing format = record { file = file; drawing = drawing; format = format }

-- The order, if the format is known and the names differ.
abbrev pub complete_trace : (file drawing : List ℕ) → Option Meaning → Option TraceOrder
complete_trace file drawing None = None
complete_trace file drawing (Some format) =
    if bytes_eq file drawing then None else Some (trace_order file drawing format)

-- The product of `trace`: the canonical text of version 2, and a report with the number of blocks,
-- lines and segments.
abbrev pub IsTraced : List ℕ → DrawingValue → ProductValue → Type 0
IsTraced drawing d product = product
    ≡ one_file_product drawing (canonical_text2 d) (tracing_report d)

-- The plan for the result of tracing a design: a drawing is accepted, and a fault is refused.
abbrev pub trace_made : TraceOrder → Result DrawingValue TraceFault → Plan
trace_made order (Ok d) = accepts (IsTraced order.drawing d)
trace_made order (Err fault) = refuses (trace_fault_text order.file fault)

-- The plan for the result of reading the design: a design is traced, and a fault is refused.
abbrev pub trace_read : TraceOrder → Result Loaded ReadFault → Plan
trace_read order (Ok loaded) = trace_made order (traced loaded.design)
trace_read order (Err fault) = refuses (read_fault_text order.file fault)

-- The plan of `trace`: read the design, then trace it.
abbrev pub trace_plan : TraceOrder → Plan
trace_plan order = reads order.file (λ bytes. trace_read order (order.format.reads bytes))
