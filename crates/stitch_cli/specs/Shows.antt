-- The command `show`: a report on the contents of a design file.
use Rattle.std.specs.Prelude.{◌≡◌, ℕ, List, Option, Some, None, Result, Ok, Err}
use Rattle.format_traits.specs.declared.fault.ReadFault.{ReadFault}
use Rattle.format_traits.specs.declared.loaded.Loaded.{Loaded}
use Rattle.format_traits.specs.Meanings.{Meaning}
use Rattle.program_texts.specs.DesignReports.{show_report}
use Rattle.program_shell.specs.Plans.{Plan, accepts, reads, refuses}
use Rattle.program_shell.specs.Products.{report_product}
use Rattle.program_shell.specs.FileTexts.{read_fault_text}

-- The order of `show`: the design to read, and its format.
pub record ShowOrder : Type 0 where
  pub file : List ℕ
  pub format : Meaning

-- The order of `show`, from its name and the format.
abbrev pub show_order : List ℕ → Meaning → ShowOrder
show_order file format = record { file = file; format = format }

-- The order, if the format is known.
abbrev pub complete_show : List ℕ → Option Meaning → Option ShowOrder
complete_show file None = None
complete_show file (Some format) = Some (show_order file format)

-- The plan for the result of reading the design: its report is printed, and a fault is refused.
abbrev pub show_read : ShowOrder → Result Loaded ReadFault → Plan
show_read order (Ok loaded) = accepts (λ product. product
    ≡ report_product (show_report order.format.ending loaded))
show_read order (Err fault) = refuses (read_fault_text order.file fault)

-- The plan of `show`: read the design, then print its report.
abbrev pub show_plan : ShowOrder → Plan
show_plan order = reads order.file (λ bytes. show_read order (order.format.reads bytes))
