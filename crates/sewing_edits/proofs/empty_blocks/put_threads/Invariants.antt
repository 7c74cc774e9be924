use Rattle.std.proofs.Common.{◌≡◌, ◌≤◌, ◌++◌, drop, length, take}
use Rattle.sewing_edits.specs.EmptyBlocks.{needled_threads_from}
use Rattle.sewing_edits.proofs.empty_blocks.put_threads.Given as goal

-- the threads so far, with those of the blocks that are left, are all threads
abbrev pub invariant-loop-needles : goal.invariant-loop-needles
invariant-loop-needles l = record {
  block : l.block ≡ l.needles-index;
  few : length l.out.threads ≤ 255;
  others : l.out ≡ record l.fn.out { threads = l.out.threads };
  threads : take 255 (l.out.threads ++ needled_threads_from l.design l.block (drop l.needles-index l.counts))
      ≡ take 255 (needled_threads_from l.design 0 l.counts);
}
