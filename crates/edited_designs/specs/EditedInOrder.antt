-- Edits of a design, one after another. Edits are numbered from 1.
use Rattle.std.specs.Prelude.{ℕ, ◌+◌, Bool, List, [], ◌∷◌, Result, Ok, Err}
use Rattle.design_model.specs.Designs.{DesignValue}
use Rattle.edited_designs.specs.declared.design_fault.BadDesignEdit.{BadDesignEdit}
use Rattle.edited_designs.specs.declared.design_fault.DesignFault.{DesignFault}
use Rattle.edited_designs.specs.DesignChanges.{DesignChange}
use Rattle.edited_designs.specs.EditedDesigns.{design_fault_is_out_of_memory, edited_design}
use Rattle.line_graph.specs.GrowingDrawings.{and_then}

-- The result of an edit, whose fault gets the edit's number.
abbrev pub at_design_edit : ℕ → Result DesignValue DesignFault → Result DesignValue BadDesignEdit
at_design_edit number (Ok d) = Ok d
at_design_edit number (Err why) = Err (record { number = number; fault = why })

-- The design after edits in order, the first of which has the given number. The first refused edit
-- determines the fault.
abbrev pub edited_in_order : ℕ → List DesignChange → DesignValue → Result DesignValue BadDesignEdit
edited_in_order number [] d = Ok d
edited_in_order number (change ∷ later) d =
    and_then (at_design_edit number (edited_design change d))
    (λ next. edited_in_order (number + 1) later next)

-- A bad edit is out of memory.
abbrev pub bad_design_edit_is_out_of_memory : BadDesignEdit → Bool
bad_design_edit_is_out_of_memory bad = design_fault_is_out_of_memory bad.fault
