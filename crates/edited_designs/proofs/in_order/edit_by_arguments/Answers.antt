use Rattle.std.proofs.Common.{[], subst, unwrap_or, ap}
use Rattle.design_model.specs.OutOfMemory.{IsSpecified}
use Rattle.edited_designs.proofs.Names.{bad_design_edit_is_out_of_memory, edited_in_order}
use Rattle.edited_designs.proofs.in_order.edit_by_arguments.Goals as goal

pub returns-in-Ok : goal.returns-in-Ok
returns-in-Ok c =
    subst (λ changes. IsSpecified bad_design_edit_is_out_of_memory (edited_in_order 1 changes c.args.design) c.edit_in_order.result)
    (ap (λ found. unwrap_or found []) c.in-Ok.ensures.value)
    (rw c.as_slice.ensures at c.edit_in_order.ensures)
