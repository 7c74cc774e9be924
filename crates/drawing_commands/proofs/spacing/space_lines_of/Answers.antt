use Rattle.std.proofs.Common.{rules}
use Rattle.drawing_commands.proofs.Names.{fault_refused, space_made, space_order, draw_is_out_of_memory}
use Rattle.drawing_commands.proofs.SpaceLemmas.{space_ordered}
use Rattle.drawing_commands.proofs.spacing.space_lines_of.Goals as goal

pub returns-in-Err : goal.returns-in-Err
returns-in-Err c = fault_refused draw_is_out_of_memory _
    (space_made (space_order c.args.limits c.args.names.input.now c.args.names.output.now) c.args.text.now.comments
    c.args.text.now.lines.drawn.drawing) _ _ _
    (λ why is. is) (rw (c.starts.ensures, c.ends.ensures) at c.in-Err.ensures.answer) c.space_failure.ensures

pub space_product-requires-clause-whole : goal.space_product-requires-clause-whole
space_product-requires-clause-whole c = record {
  whole = search rules;
  ordered = space_ordered c.args.text.now.lines.drawing _ c.requires.ordered (rw c.starts.ensures at c.in-Ok.ensures.starts)
      (rw c.ends.ensures at c.in-Ok.ensures.ends);
  no_ends = search rules;
}
