use Rattle.std.proofs.Common.{◌≡◌, length}
use Rattle.design_rewrites.specs.WrittenActs.{design_after_acts}
use Rattle.sewing_edits.specs.ThreadRanges.{AreNeedlesInRange}
use Rattle.sewing_edits.specs.ThreadTies.{acts_of_needles}
use Rattle.sewing_edits.proofs.thread_edits.put_needles.Given as goal

-- the needles so far, and those that are left
abbrev pub invariant-loop-left : goal.invariant-loop-left
invariant-loop-left l = record {
  left : AreNeedlesInRange l.left;
  written : design_after_acts l.fn.out (acts_of_needles l.needles) ≡ design_after_acts l.out (acts_of_needles l.left);
}

abbrev pub decreases-loop-left : goal.decreases-loop-left
decreases-loop-left l = length l.left
