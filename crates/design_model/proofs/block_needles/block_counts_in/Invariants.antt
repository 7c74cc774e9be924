use Rattle.std.proofs.Common.{◌≡◌, ◌≤◌, ◌+◌, drop, length}
use Rattle.design_model.proofs.Names.{acts_along, acts_from, continued_block_counts, needles_by_block}
use Rattle.design_model.proofs.block_needles.block_counts_in.Given as goal

-- the blocks that ended, the block that was begun, and those of the commands that are left
abbrev pub invariant-loop-command : goal.invariant-loop-command
invariant-loop-command l = record {
  most : l.needles ≤ l.command-index;
  ended : length l.ended ≤ l.command-index;
  blocks : continued_block_counts l.ended l.needles
      (acts_from (l.command-index + 1) l.thread.loose l.thread.jumped (drop l.command-index l.commands))
      ≡ needles_by_block (acts_along l.commands);
}
