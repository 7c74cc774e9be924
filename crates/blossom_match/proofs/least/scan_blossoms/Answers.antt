use Rattle.std.proofs.Common.{get_or}
use Rattle.blossom_match.proofs.Names.{branch_in, branches_in, mapped_item, mapped_low, no_branch}
use Rattle.blossom_match.proofs.ScanLemmas.{narrowing_more, narrowing_start}
use Rattle.blossom_match.proofs.least.scan_blossoms.Goals as goal

pub loop-i-init : goal.loop-i-init
loop-i-init c = narrowing_start _ _

pub loop-i-preserved : goal.loop-i-preserved
loop-i-preserved c = narrowing_more (branches_in c.args.sets.now c.args.tree.now) c.loop-i.i
    (branch_in c.args.sets.now (get_or c.args.tree.now c.loop-i.i no_branch)) _ _ _
    (mapped_low (branch_in c.args.sets.now) c.args.tree.now c.loop-i.i c.loop-i-test.true)
    (mapped_item (branch_in c.args.sets.now) c.args.tree.now c.loop-i.i no_branch)
    c.loop-i.invariant c.lesser_change-least.ensures
