-- The commands `look` and `pass`: a report on the design of a file, and whether it has a place.
use Rattle.std.specs.Prelude.{◌≡◌, ℕ, List, [], ◌∷◌, Result, Ok, Err}
use Rattle.design_review.specs.declared.limits.ReviewLimits.{ReviewLimits}
use Rattle.design_review.specs.declared.place.DesignPlace.{DesignPlace}
use Rattle.design_review.specs.Places.{places_of}
use Rattle.format_traits.specs.declared.fault.ReadFault.{ReadFault}
use Rattle.format_traits.specs.declared.loaded.Loaded.{Loaded}
use Rattle.format_traits.specs.Meanings.{Meaning}
use Rattle.program_shell.specs.FileTexts.{read_fault_text, text_about}
use Rattle.program_shell.specs.Plans.{Plan, accepts, reads, refuses}
use Rattle.program_shell.specs.Products.{report_product}
use Rattle.design_commands.specs.LookTexts.{design_look_report}
use Rattle.design_commands.specs.PlaceTexts.{design_place_text}

-- An order of `look` or `pass`: the design to read, its format, and the limits.
pub record ReviewOrder : Type 0 where
  pub file : List ℕ
  pub format : Meaning
  pub limits : ReviewLimits

-- An order, from its name, the limits and the format.
abbrev pub review_order : List ℕ → ReviewLimits → Meaning → ReviewOrder
review_order file limits format = record { file = file; format = format; limits = limits }

-- The plan of `look` for the result of reading the design: its report is printed, and a fault is
-- refused.
abbrev pub design_look_read : ReviewOrder → Result Loaded ReadFault → Plan
design_look_read order (Ok loaded) = accepts (λ product. product
    ≡ report_product (design_look_report order.limits loaded.design))
design_look_read order (Err fault) = refuses (read_fault_text order.file fault)

-- The plan of `look`: read the design, then print its report.
abbrev pub design_look_plan : ReviewOrder → Plan
design_look_plan order = reads order.file (λ bytes. design_look_read order
    (order.format.reads bytes))

-- The plan of `pass` for the places of the design: nothing is printed if there is none, and else
-- the first is refused.
abbrev pub passed_by_places : ReviewOrder → List DesignPlace → Plan
passed_by_places order [] = accepts (λ product. product ≡ report_product [])
passed_by_places order (p ∷ rest) = refuses (text_about order.file (design_place_text p))

-- The plan of `pass` for the result of reading the design.
abbrev pub pass_read : ReviewOrder → Result Loaded ReadFault → Plan
pass_read order (Ok loaded) = passed_by_places order (places_of order.limits loaded.design)
pass_read order (Err fault) = refuses (read_fault_text order.file fault)

-- The plan of `pass`: read the design, then look for its first place.
abbrev pub pass_plan : ReviewOrder → Plan
pass_plan order = reads order.file (λ bytes. pass_read order (order.format.reads bytes))
