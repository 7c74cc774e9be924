use Rattle.std.proofs.Common.{◌≡◌, false, bytes_eq, rules}
use Rattle.stitch_cli.proofs.Names.{complete_trace, option_map, settles_found, stitch, trace_order, trace_read, tracing}
use Rattle.stitch_cli.proofs.tracing.trace_file.Goals as goal

pub returns-clause-answers : goal.returns-clause-answers
returns-clause-answers g c =
    let apart : bytes_eq c.args.names.input.now c.args.names.output.now ≡ false = search rules in
    settles_found stitch (λ known. option_map (λ o. tracing o) (complete_trace c.args.names.input.now c.args.names.output.now known)) _
    (λ m. trace_read (trace_order c.args.names.input.now c.args.names.output.now m)) _ _ _ _ _ _ c.in_ok-found.ensures.loads
    (λ m runs. rw apart runs) (λ m at. c.trace_design.ensures m)
