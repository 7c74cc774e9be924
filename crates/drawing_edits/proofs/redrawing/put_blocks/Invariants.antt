use Rattle.std.proofs.Common.{◌≡◌, drop}
use Rattle.drawing_edits.proofs.Names.{with_blocks}
use Rattle.drawing_edits.proofs.redrawing.put_blocks.Given as goal

-- the blocks so far are drawn: the result depends on the drawing with them and on the others
abbrev pub invariant-loop-thread : goal.invariant-loop-thread
invariant-loop-thread l = record {
  numbered : l.block ≡ l.thread-index;
  drawn : with_blocks l.maker l.block (drop l.thread-index l.threads) l.lines ≡ with_blocks l.fn.maker 0 l.threads l.lines;
}
