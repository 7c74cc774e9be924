use Rattle.stitch_trace.proofs.MoveLemmas.{begun_so}
use Rattle.stitch_trace.proofs.chains.chains.Goals as goal

pub loop-a-init : goal.loop-a-init
loop-a-init c =
    begun_so c.args.acts.now c.new-sewn.result c.new-chain.result c.new-chains.result c.new-sewn.ensures.empty c.new-chain.ensures
    c.new-chains.ensures
