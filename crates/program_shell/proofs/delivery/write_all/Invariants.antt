use Rattle.std.proofs.Common.{drop}
use Rattle.program_shell.proofs.Names.{output_values}
use Rattle.program_shell.proofs.DeliveryLemmas.{WritesOn}
use Rattle.program_shell.proofs.delivery.write_all.Given as goal

-- once the outputs that are left are written, all are
abbrev pub invariant-loop-output : goal.invariant-loop-output
invariant-loop-output g l = WritesOn (output_values l.outputs) (output_values (drop l.output-index l.outputs))
    (g.S.Store.view l.fn.store) (g.S.Store.view l.store)
