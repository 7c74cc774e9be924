-- The results of a shift.
use Rattle.std.specs.Prelude.{◌≡◌, ℤ, Some, None, Result, Ok, Err}
use Rattle.design_model.specs.Designs.{DesignValue}
use Rattle.design_edits.specs.declared.edit_fault.EditFault.{EditFault}
use Rattle.design_edits.specs.declared.edit_fault.EditFault.TheVariants as fault
use Rattle.design_edits.specs.Moves.{first_out_of_range, shifted}

-- The result of a shift: all moved points are in their ranges, or the error names the first command
-- whose point is not. An error leaves the design unchanged.
abbrev pub IsShiftResult : {T : Type 0} → ℤ → ℤ → DesignValue → Result T EditFault → DesignValue
    → Type 0
IsShiftResult dx dy old (Ok _) new = (first_out_of_range (shifted dx dy old).commands ≡ None)
    × (new ≡ shifted dx dy old)
IsShiftResult dx dy old (Err (fault.Range number)) new =
    (first_out_of_range (shifted dx dy old).commands ≡ Some number) × (new ≡ old)
IsShiftResult dx dy old (Err (fault.NoPlace count)) new = ⊥
