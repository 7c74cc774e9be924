use Rattle.std.proofs.Common.{◌≡◌, ◌≤◌, ◌+◌, ◌-◌, ◌++◌}
use Rattle.design_commands.specs.ThreadTexts.{palette_lines}
use Rattle.design_commands.proofs.thread_texts.first_threads.Given as goal

-- the lines so far, and those of the threads that are left
abbrev pub invariant-loop-thread : goal.invariant-loop-thread
invariant-loop-thread l = record {
  most : l.thread ≤ l.count + 1;
  lines : l.text ++ palette_lines l.thread (l.count + 1 - l.thread) ≡ palette_lines 1 l.count;
}

abbrev pub decreases-loop-thread : goal.decreases-loop-thread
decreases-loop-thread l = l.count + 1 - l.thread
