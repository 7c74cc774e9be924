use Rattle.std.proofs.Common.{◌≡◌, [], length}
use Rattle.design_model.specs.Acts.{acts_without_numbers}
use Rattle.design_rewrites.specs.WrittenActs.{AreActsInRange, design_after_acts}
use Rattle.sewing_edits.specs.ThreadRanges.{AreNeedlesInRange}
use Rattle.sewing_edits.specs.ThreadTies.{edited_threads}
use Rattle.sewing_edits.proofs.thread_edits.put_threads.Given as goal

-- what is written so far, and the acts that are left with the thread before them
abbrev pub invariant-loop-rest : goal.invariant-loop-rest
invariant-loop-rest l = record {
  acts : AreActsInRange l.rest;
  thread : AreNeedlesInRange l.thread;
  written : design_after_acts l.fn.out (edited_threads l.edit [] (acts_without_numbers l.acts))
      ≡ design_after_acts l.out (edited_threads l.edit l.thread (acts_without_numbers l.rest));
}

abbrev pub decreases-loop-rest : goal.decreases-loop-rest
decreases-loop-rest l = length l.rest
