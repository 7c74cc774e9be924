use Rattle.std.proofs.Common.{◌≤◌, ◌-◌, length}
use Rattle.design_review.specs.NeedleKeys.{count_below}
use Rattle.design_review.proofs.key_windows.advanced.Given as goal

-- no more keys are passed than are below the bound
abbrev pub invariant-loop-at : goal.invariant-loop-at
invariant-loop-at l = l.at ≤ count_below l.keys l.bound

abbrev pub decreases-loop-at : goal.decreases-loop-at
decreases-loop-at l = length l.keys - l.at
