use Rattle.std.proofs.Common.{◌≡◌, ◌++◌, drop}
use Rattle.drawing_text.proofs.Names.{blocks_text3, with_ends_of}
use Rattle.drawing_text.proofs.end_printing.put_blocks3.Given as goal

-- the text so far, and that of the blocks that are left
abbrev pub invariant-loop-thread : goal.invariant-loop-thread
invariant-loop-thread l = record {
  count : l.block ≡ l.thread-index;
  written : l.text ++ blocks_text3 l.block (drop l.thread-index l.d.threads) (with_ends_of l.d l.other)
      ≡ l.fn.text ++ blocks_text3 0 l.d.threads (with_ends_of l.d l.other);
}
