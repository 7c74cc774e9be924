use Rattle.std.proofs.Common.{arith}
use Rattle.design_review.proofs.WindowLemmas.{none_after, passed_below}
use Rattle.design_review.proofs.key_windows.advanced.Goals as goal

pub loop-at-preserved : goal.loop-at-preserved
loop-at-preserved c = passed_below c.args.keys.now c.loop-at.at c.args.bound c.requires.sorted c.loop-at-test.true c.if-keys-at.true

pub returns-else-keys-at : goal.returns-else-keys-at
returns-else-keys-at c = omega (
  arith,
  c.loop-at.invariant,
  none_after c.args.keys.now c.loop-at.at c.args.bound c.requires.sorted c.loop-at-test.true c.if-keys-at.false,
)
