-- The command `compare`: whether the designs of two files have the same acts, and the same threads
-- if it is asked for.
use Rattle.std.specs.Prelude.{◌≡◌, ℕ, Bool, true, false, List, [], Option, Some, None, Result, Ok, Err}
use Rattle.design_review.specs.declared.difference.ActDifference.{ActDifference}
use Rattle.design_review.specs.declared.difference.ThreadDifference.{ThreadDifference}
use Rattle.design_review.specs.Differences.{act_difference_of, thread_difference_of}
use Rattle.design_model.specs.Designs.{DesignValue}
use Rattle.format_traits.specs.declared.fault.ReadFault.{ReadFault}
use Rattle.format_traits.specs.declared.loaded.Loaded.{Loaded}
use Rattle.format_traits.specs.Meanings.{Meaning}
use Rattle.program_shell.specs.FileTexts.{read_fault_text}
use Rattle.program_shell.specs.Plans.{Plan, accepts, reads, refuses}
use Rattle.program_shell.specs.Products.{report_product}
use Rattle.design_commands.specs.DifferenceTexts.{act_difference_text, thread_difference_text}

-- The order of `compare`: the two designs to read, their formats, and whether threads are compared.
pub record CompareOrder : Type 0 where
  pub first : List ℕ
  pub first_format : Meaning
  pub second : List ℕ
  pub second_format : Meaning
  pub threads : Bool

-- The order of `compare`, from its names, formats and the choice.
abbrev pub compare_order : (first second : List ℕ) → Bool → (m n : Meaning) → CompareOrder
compare_order first second threads m n = record {
  first = first;
  first_format = m;
  second = second;
  second_format = n;
  threads = threads;
}

-- The plan for designs with the same acts, by the first difference of their threads.
abbrev pub compared_threads : Option ThreadDifference → Plan
compared_threads None = accepts (λ product. product ≡ report_product [])
compared_threads (Some difference) = refuses (thread_difference_text difference)

-- The plan for designs by the first difference of their acts. Where there is none, their threads
-- are compared if it is asked for.
abbrev pub compared_acts : Bool → DesignValue → DesignValue → Option ActDifference → Plan
compared_acts threads first second (Some difference) = refuses (act_difference_text difference)
compared_acts true first second None = compared_threads (thread_difference_of first second)
compared_acts false first second None = accepts (λ product. product ≡ report_product [])

-- The plan for two designs.
abbrev pub compared : Bool → DesignValue → DesignValue → Plan
compared threads first second =
    compared_acts threads first second (act_difference_of first second)

-- The plan for the result of reading the second design.
abbrev pub compare_second : CompareOrder → DesignValue → Result Loaded ReadFault → Plan
compare_second order first (Ok loaded) = compared order.threads first loaded.design
compare_second order first (Err fault) = refuses (read_fault_text order.second fault)

-- The plan for the result of reading the first design: next the second is read.
abbrev pub compare_first : CompareOrder → Result Loaded ReadFault → Plan
compare_first order (Ok loaded) = reads order.second
    (λ bytes. compare_second order loaded.design (order.second_format.reads bytes))
compare_first order (Err fault) = refuses (read_fault_text order.first fault)

-- The plan of `compare`: read both designs, then compare them.
abbrev pub compare_plan : CompareOrder → Plan
compare_plan order = reads order.first
    (λ bytes. compare_first order (order.first_format.reads bytes))
