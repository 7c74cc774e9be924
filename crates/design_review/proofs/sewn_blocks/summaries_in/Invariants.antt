use Rattle.std.proofs.Common.{◌≡◌, ◌≤◌, ◌+◌, drop, length, map}
use Rattle.design_model.specs.Acts.{acts_along, acts_from}
use Rattle.design_model.specs.Blocks.{blocks_of}
use Rattle.design_review.specs.BlockSummaries.{summary_of_block}
use Rattle.design_review.specs.OpenBlocks.{HasSmallLength, with_blocks}
use Rattle.design_review.proofs.sewn_blocks.summaries_in.Given as goal

-- the blocks that ended, the open one, and those of the commands that are left
abbrev pub invariant-loop-command : goal.invariant-loop-command
invariant-loop-command l = record {
  small : HasSmallLength l.block.summary;
  few : l.block.summary.needles ≤ l.command-index;
  ended : length l.ended ≤ l.command-index;
  blocks : with_blocks l.ended l.block
      (acts_from (l.command-index + 1) l.thread.loose l.thread.jumped (drop l.command-index l.commands))
      ≡ map summary_of_block (blocks_of (acts_along l.commands));
}
