use Rattle.std.proofs.Common.{◌++◌, ◌+◌, ◌≡◌, drop, length}
use Rattle.drawing_picture.proofs.Names.{thread_lines}
use Rattle.drawing_picture.proofs.drawing_captions.put_thread_lines.Given as goal

-- the lines so far, and those of the threads that are left, are all
abbrev pub invariant-loop-thread : goal.invariant-loop-thread
invariant-loop-thread l = record {
  count : l.block + length (drop l.thread-index l.threads) ≡ 1 + length l.threads;
  lines : l.text ++ thread_lines l.block (drop l.thread-index l.threads) ≡ l.fn.text ++ thread_lines 1 l.threads;
}
