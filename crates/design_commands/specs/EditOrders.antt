-- The command `edit`: a design is read, edited and written. Edits are numbered from 1.
use Rattle.std.specs.Prelude.{ℕ, Bool, true, false, List, ◌++◌, Result, Ok, Err, codes, decimal}
use Rattle.design_model.specs.Designs.{DesignValue}
use Rattle.design_commands.specs.DesignOutputs.{WritesDesign, WritesPictured, has_thumbnails}
use Rattle.edited_designs.specs.declared.design_fault.BadDesignEdit.{BadDesignEdit}
use Rattle.edited_designs.specs.declared.design_fault.DesignFault.{DesignFault}
use Rattle.edited_designs.specs.declared.design_fault.DesignFault.TheVariants as fault
use Rattle.edited_designs.specs.DesignChanges.{DesignChange, draws_thumbnails}
use Rattle.edited_designs.specs.EditedInOrder.{edited_in_order}
use Rattle.format_traits.specs.declared.fault.ReadFault.{ReadFault}
use Rattle.format_traits.specs.declared.loaded.Loaded.{Loaded}
use Rattle.format_traits.specs.Meanings.{Meaning}
use Rattle.program_shell.specs.FileTexts.{read_fault_text, text_about, text_at}
use Rattle.program_shell.specs.Plans.{Plan, reads, refuses, satisfies}

-- The order of `edit`: the design to read, the file to write, their formats, and the edits.
pub record DesignEditOrder : Type 0 where
  pub input : List ℕ
  pub output : List ℕ
  pub source : Meaning
  pub target : Meaning
  pub changes : List DesignChange

-- The order of `edit`, from its names, the formats and the edits.
abbrev pub design_edit_order : (input output : List ℕ) → List DesignChange
    → (source target : Meaning) → DesignEditOrder
design_edit_order input output changes source target = record {
  input = input;
  output = output;
  source = source;
  target = target;
  changes = changes;
}

-- What is wrong with an edit. Commands and blocks are numbered from 1.
abbrev pub design_fault_text : DesignFault → List ℕ
design_fault_text (fault.Range number) =
    codes "command " ++ (decimal number ++ codes " moved out of range")
design_fault_text (fault.NoPlace place count) =
    codes "no block " ++ (decimal place ++ (codes ", there are " ++ decimal count))
design_fault_text fault.TooMany = codes "more than 1000000 commands"
design_fault_text fault.Memory = codes "out of memory"

-- The text about an edit that is refused.
abbrev pub bad_design_edit_text : List ℕ → BadDesignEdit → List ℕ
bad_design_edit_text name bad =
    text_at name (codes "edit") bad.number (design_fault_text bad.fault)

-- The plan to write a design with its thumbnails, given whether the format has some.
abbrev pub pictured_by : Bool → List ℕ → Meaning → DesignValue → Plan
pictured_by true output target d = satisfies (WritesPictured output target d)
pictured_by false output target d =
    refuses (text_about output (codes "no thumbnails in this format"))

-- The plan to write a design with its thumbnails, if the format has some.
abbrev pub pictured_plan : List ℕ → Meaning → DesignValue → Plan
pictured_plan output target d = pictured_by (has_thumbnails target) output target d

-- The plan to write a design, given whether its thumbnails are drawn.
abbrev pub written_by : Bool → List ℕ → Meaning → DesignValue → Plan
written_by true output target d = pictured_plan output target d
written_by false output target d = satisfies (WritesDesign output target d)

-- The plan for the result of the edits: the edited design is written, and a bad edit is refused.
abbrev pub edited_design_plan : DesignEditOrder → Result DesignValue BadDesignEdit → Plan
edited_design_plan order (Ok d) =
    written_by (draws_thumbnails order.changes) order.output order.target d
edited_design_plan order (Err bad) = refuses (bad_design_edit_text order.input bad)

-- The plan for the result of reading the design: it is edited, and a fault is refused.
abbrev pub design_edit_read : DesignEditOrder → Result Loaded ReadFault → Plan
design_edit_read order (Ok loaded) =
    edited_design_plan order (edited_in_order 1 order.changes loaded.design)
design_edit_read order (Err why) = refuses (read_fault_text order.input why)

-- The plan of `edit`: read the design, then write the edited design.
abbrev pub design_edit_plan : DesignEditOrder → Plan
design_edit_plan order =
    reads order.input (λ bytes. design_edit_read order (order.source.reads bytes))
