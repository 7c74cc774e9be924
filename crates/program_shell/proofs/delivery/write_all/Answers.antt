use Rattle.std.proofs.Common.{ap}
use Rattle.program_shell.proofs.Names.{at_drop_more, drop_all, output_values}
use Rattle.program_shell.proofs.DeliveryLemmas.{writes_all, writes_on, writes_up_to}
use Rattle.program_shell.proofs.delivery.write_all.Goals as goal

pub loop-output-preserved : goal.loop-output-preserved
loop-output-preserved g c = writes_on _ _ _ _ _ _ _ c.loop-output.invariant
    (at_drop_more output_values c.args.outputs.now c.loop-output.output-index _ c.loop-output-test.true)
    (rw (c.as_slice.ensures, c.output-item.is) at c.in-Ok.ensures.holds)
    (rw c.output-item.is at c.in-Ok.ensures.others) c.in-Ok.ensures.cause

pub returns-in-Err-clause-stops : goal.returns-in-Err-clause-stops
returns-in-Err-clause-stops g c = rw c.output-item.is (writes_up_to _ _ _ _ _ _ _ c.loop-output.invariant
    (at_drop_more output_values c.args.outputs.now c.loop-output.output-index _ c.loop-output-test.true)
    (rw c.output-item.is at c.in-Err.ensures.others) (rw c.output-item.is at c.in-Err.ensures.cause))

pub returns-clause-done : goal.returns-clause-done
returns-clause-done g c = writes_all _ _ _ _ c.loop-output.invariant
    (ap output_values (drop_all c.loop-output.output-index c.args.outputs.now c.loop-output-test.false))
