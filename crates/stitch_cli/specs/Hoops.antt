-- The command `hoop`: does a design fit a hoop?
use Rattle.std.specs.Prelude.{◌≡◌, ℕ, List, ◌++◌, Option, Some, None, Result, Ok, Err, codes}
use Rattle.format_traits.specs.declared.fault.ReadFault.{ReadFault}
use Rattle.format_traits.specs.declared.loaded.Loaded.{Loaded}
use Rattle.format_traits.specs.Meanings.{Meaning}
use Rattle.hoop_check.specs.declared.fitting.Fit.{Fit}
use Rattle.hoop_check.specs.declared.fitting.Fit.TheVariants as fit
use Rattle.hoop_check.specs.Fits.{fit_of}
use Rattle.design_model.specs.TextLines.{newline}
use Rattle.program_shell.specs.Plans.{Plan, accepts, reads, refuses}
use Rattle.program_shell.specs.Products.{report_product}
use Rattle.program_shell.specs.FileTexts.{read_fault_text}
use Rattle.program_texts.specs.DesignTexts.{too_large_text}

-- The order of `hoop`: the design to read, its format, and the sides of the hoop in tenths of a
-- millimetre.
pub record HoopOrder : Type 0 where
  pub file : List ℕ
  pub format : Meaning
  pub width : ℕ
  pub height : ℕ

-- The order of `hoop`, from its name, the format and the sides of the hoop.
abbrev pub hoop_order : List ℕ → Meaning → ℕ → ℕ → HoopOrder
hoop_order file format width height =
    record { file = file; format = format; width = width; height = height }

-- The order, if the format is known.
abbrev pub complete_hoop : List ℕ → ℕ → ℕ → Option Meaning → Option HoopOrder
complete_hoop file width height None = None
complete_hoop file width height (Some format) = Some (hoop_order file format width height)

-- The plan for the result of fitting: a report that it fits, or a refusal with the excess on each
-- side.
abbrev pub hoop_fitted : Fit → Plan
hoop_fitted fit.Upright = accepts (λ product. product
    ≡ report_product (codes "fits upright" ++ newline))
hoop_fitted fit.Turned = accepts (λ product. product
    ≡ report_product (codes "fits turned" ++ newline))
hoop_fitted (fit.No over_x over_y) = refuses (too_large_text over_x over_y)

-- The plan for the result of reading the design: a design is compared with the hoop, and a fault is
-- refused.
abbrev pub hoop_read : HoopOrder → Result Loaded ReadFault → Plan
hoop_read order (Ok loaded) = hoop_fitted (fit_of loaded.design order.width order.height)
hoop_read order (Err fault) = refuses (read_fault_text order.file fault)

-- The plan of `hoop`: read the design, then compare it with the hoop.
abbrev pub hoop_plan : HoopOrder → Plan
hoop_plan order = reads order.file (λ bytes. hoop_read order (order.format.reads bytes))
