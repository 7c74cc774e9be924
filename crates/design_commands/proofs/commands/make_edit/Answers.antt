use Rattle.std.proofs.Common.{map, string_bytes, sym}
use Rattle.design_commands.specs.Commands.{editing}
use Rattle.design_commands.specs.EditOrders.{design_edit_order}
use Rattle.edited_designs.specs.EditArguments.{changes_of}
use Rattle.design_commands.proofs.FormatLemmas.{both_found}
use Rattle.design_commands.proofs.commands.make_edit.Goals as goal

pub returns : goal.returns
returns g c = λ mistake. both_found _ c.args.formats.now c.args.names.input.now c.args.names.output.now
    (λ m n. editing (design_edit_order c.args.names.input.now c.args.names.output.now
    (changes_of (map (λ word. string_bytes word) c.args.edits.now)) m n)) _ _ mistake _ _ _
    (sym c.in-Some.ensures.value) (sym c.in-Some-find.ensures.value) c.in-Some.ensures.there c.in-Some-find.ensures.there
    c.edit_file.ensures.prepares
