use Rattle.std.proofs.Common.{arith}
use Rattle.design_model.specs.Acts.{acts_along}
use Rattle.design_review.proofs.BlockLemmas.{all_blocks}
use Rattle.design_review.proofs.sewn_blocks.summaries_in.Goals as goal

pub loop-command-init : goal.loop-command-init
loop-command-init c = record {
  small = c.new-block.ensures.small;
  few = rw c.new-block.ensures.value (omega arith);
  ended = rw c.new-ended.ensures (omega arith);
  blocks = rw (c.new-block.ensures.value, c.new-ended.ensures, c.new-thread.ensures) (all_blocks (acts_along c.args.commands.now));
}
