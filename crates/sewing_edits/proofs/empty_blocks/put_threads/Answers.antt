use Rattle.sewing_edits.proofs.ThreadLemmas.{threads_end}
use Rattle.sewing_edits.proofs.empty_blocks.put_threads.Goals as goal

pub returns : goal.returns
returns c = threads_end c.args.design.now c.args.out.now c.loop-needles.out c.args.counts.now c.loop-needles.block
    c.loop-needles.needles-index c.loop-needles-test.false c.loop-needles.invariant.few c.loop-needles.invariant.others
    c.loop-needles.invariant.threads
