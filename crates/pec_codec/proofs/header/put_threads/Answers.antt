use Rattle.pec_codec.proofs.HeaderLemmas.{threads_more}
use Rattle.pec_codec.proofs.header.put_threads.Goals as goal

pub loop-block-preserved : goal.loop-block-preserved
loop-block-preserved c = threads_more c.args.design.now c.loop-block.block c.thread.result c.args.out.now c.loop-block.out
    c.push.new.self c.thread.ensures c.loop-block.invariant c.in_ok-push.ensures.ok
