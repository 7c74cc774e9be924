use Rattle.blossom_match.proofs.DualLemmas.{resized_more}
use Rattle.blossom_match.proofs.adjustment.change_branches.Goals as goal

pub loop-i-preserved : goal.loop-i-preserved
loop-i-preserved c = resized_more c.args.by c.args.tree.now c.loop-i.tree c.loop-i.i c.loop-i-test.true c.loop-i.auto.tree
    c.loop-i.invariant
