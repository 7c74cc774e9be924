use Rattle.std.proofs.Common.{◌≡◌, ◌++◌, drop}
use Rattle.drawing_text.proofs.Names.{blocks_text}
use Rattle.drawing_text.proofs.printing.put_blocks.Given as goal

-- the text so far, and that of the blocks that are left
abbrev pub invariant-loop-thread : goal.invariant-loop-thread
invariant-loop-thread l = record {
  count : l.block ≡ l.thread-index;
  written : l.text ++ blocks_text l.block (drop l.thread-index l.threads) l.lines ≡ l.fn.text ++ blocks_text 0 l.threads l.lines;
}
