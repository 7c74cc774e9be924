-- The command `threads`: those of the blocks of a file.
use Rattle.std.specs.Prelude.{◌≡◌, ℕ, List, Result, Ok, Err}
use Rattle.format_traits.specs.declared.fault.ReadFault.{ReadFault}
use Rattle.format_traits.specs.declared.loaded.Loaded.{Loaded}
use Rattle.format_traits.specs.Meanings.{Meaning}
use Rattle.program_shell.specs.FileTexts.{read_fault_text}
use Rattle.program_shell.specs.Plans.{Plan, accepts, reads, refuses}
use Rattle.program_shell.specs.Products.{report_product}
use Rattle.design_commands.specs.ThreadTexts.{threads_report}

-- The order of `threads`: the design to read, and its format.
pub record ThreadsOrder : Type 0 where
  pub file : List ℕ
  pub format : Meaning

-- The order of `threads`, from its name and the format.
abbrev pub threads_order : List ℕ → Meaning → ThreadsOrder
threads_order file format = record { file = file; format = format }

-- The plan for the result of reading the design: its threads are printed, and a fault is refused.
abbrev pub threads_read : ThreadsOrder → Result Loaded ReadFault → Plan
threads_read order (Ok loaded) = accepts (λ product. product
    ≡ report_product (threads_report loaded.design))
threads_read order (Err fault) = refuses (read_fault_text order.file fault)

-- The plan of `threads`: read the design, then print its threads.
abbrev pub threads_plan : ThreadsOrder → Plan
threads_plan order = reads order.file (λ bytes. threads_read order (order.format.reads bytes))
