use Rattle.std.proofs.Common.{◌≡◌, ◌++◌, List}
use Rattle.design_rewrites.specs.WrittenActs.{design_after_acts}
use Rattle.sewing_edits.proofs.Names.{Act, needles_at, there_and_back}
use Rattle.sewing_edits.proofs.beans.put_times.Given as goal

-- the design so far, with the times that are left, is the design with all of them
abbrev pub invariant-loop-left : goal.invariant-loop-left
invariant-loop-left l = (rest : List Act)
    → design_after_acts l.fn.out (needles_at (there_and_back l.times l.from l.to) ++ rest)
    ≡ design_after_acts l.out (needles_at (there_and_back l.left l.from l.to) ++ rest)

abbrev pub decreases-loop-left : goal.decreases-loop-left
decreases-loop-left l = l.left
