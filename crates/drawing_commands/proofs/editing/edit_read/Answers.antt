use Rattle.std.proofs.Common.{map, string_bytes}
use Rattle.drawing_commands.proofs.Names.{fault_refused, bad_edit_is_out_of_memory, drawing_edit_order, drawing_edits_of, edited_plan}
use Rattle.drawing_commands.proofs.editing.edit_read.Goals as goal

pub returns-in-Err : goal.returns-in-Err
returns-in-Err c = fault_refused bad_edit_is_out_of_memory _ (edited_plan (drawing_edit_order c.args.names.input.now
    c.args.names.output.now (drawing_edits_of (map (λ word. string_bytes word) c.args.edits.now))) c.args.text.now) _ _ _
    (λ why is. is) c.in-Err.ensures.answer c.edit_failure.ensures
