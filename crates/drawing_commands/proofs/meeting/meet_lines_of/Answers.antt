use Rattle.std.proofs.Common.{rules}
use Rattle.drawing_commands.proofs.Names.{fault_refused, meet_is_out_of_memory, meet_made}
use Rattle.drawing_commands.proofs.MeetLemmas.{meet_ordered}
use Rattle.drawing_commands.proofs.meeting.meet_lines_of.Goals as goal

pub returns-in-Err : goal.returns-in-Err
returns-in-Err c = fault_refused meet_is_out_of_memory _
    (meet_made (record {
      rule = c.args.rule;
      report = c.args.report;
      input = c.args.names.input.now;
      output = c.args.names.output.now;
    }) c.args.text.now.comments c.args.text.now.lines.drawing) _ _ _
    (λ why is. is) (rw (c.starts.ensures, c.ends.ensures) at c.in-Err.ensures.answer) c.meet_failure.ensures

pub meet_product-requires-clause-whole : goal.meet_product-requires-clause-whole
meet_product-requires-clause-whole c = record {
  whole = search rules;
  ordered = meet_ordered c.args.text.now.lines.drawing _ c.requires.ordered (rw c.starts.ensures at c.in-Ok.ensures.starts)
      (rw c.ends.ensures at c.in-Ok.ensures.ends);
  no_ends = search rules;
}
