use Rattle.std.proofs.Common.{◌≡◌, ◌≤◌, ◌+◌, length}
use Rattle.design_model.specs.Acts.{acts_without_numbers}
use Rattle.design_review.specs.Differences.{act_difference_from}
use Rattle.design_review.proofs.acts_compared.difference_in.Given as goal

-- no difference so far, and the first one is that of the acts that are left
abbrev pub invariant-loop-a : goal.invariant-loop-a
invariant-loop-a l = record {
  few : l.number + length l.ours ≤ length l.first + 1;
  found : act_difference_from l.number (acts_without_numbers l.ours) (acts_without_numbers l.theirs)
      ≡ act_difference_from 1 (acts_without_numbers l.first) (acts_without_numbers l.second);
}

abbrev pub decreases-loop-a : goal.decreases-loop-a
decreases-loop-a l = length l.ours
