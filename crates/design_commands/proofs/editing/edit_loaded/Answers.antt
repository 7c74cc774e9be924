use Rattle.std.proofs.Common.{map, string_bytes}
use Rattle.design_commands.proofs.Names.{bad_design_edit_is_out_of_memory, changes_of, design_edit_order, edited_design_plan, fault_refused}
use Rattle.design_commands.proofs.editing.edit_loaded.Goals as goal

pub returns-in-Err : goal.returns-in-Err
returns-in-Err g c = λ source. fault_refused bad_design_edit_is_out_of_memory _
    (edited_design_plan (design_edit_order c.args.names.input.now c.args.names.output.now
    (changes_of (map (λ word. string_bytes word) c.args.edits.now)) source _)) _ _ _
    (λ why is. is) c.in-Err.ensures c.edit_refusal.ensures
