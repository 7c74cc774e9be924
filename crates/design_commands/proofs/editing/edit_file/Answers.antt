use Rattle.std.proofs.Common.{map, string_bytes, subst}
use Rattle.design_commands.proofs.Names.{Meaning, RunsPurePlan, changes_of, design_edit_order, design_edit_read, edited_design_plan, edited_in_order, same_format, settles_taken}
use Rattle.design_commands.proofs.editing.edit_file.Goals as goal

pub returns-clause-prepares : goal.returns-clause-prepares
returns-clause-prepares g c = λ s t of_source of_target.
    let changes = changes_of (map (λ word. string_bytes word) c.args.edits.now) in
    let order = design_edit_order c.args.names.input.now c.args.names.output.now changes s in
    settles_taken _ s.reads (design_edit_read (order t)) _ _ _ _
    (c.in_ok-loaded.ensures.loads s of_source)
    (subst (λ (here : Meaning). RunsPurePlan (edited_design_plan (order here)
    (edited_in_order 1 changes c.in_ok-loaded.loaded.design)) c.edit_loaded.result)
    (same_format _ _ c.args.target _ t c.in_ok-loaded.ensures.same c.format_at.ensures of_target) (c.edit_loaded.ensures s))
