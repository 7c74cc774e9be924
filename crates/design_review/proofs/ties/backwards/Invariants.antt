use Rattle.std.proofs.Common.{◌≡◌, ◌++◌, length}
use Rattle.design_review.specs.Ties.{with_next_floats}
use Rattle.design_review.proofs.ties.backwards.Given as goal

-- the needles so far, and those that are left
abbrev pub invariant-loop-rest : goal.invariant-loop-rest
invariant-loop-rest l = l.turned ++ with_next_floats l.rest ≡ with_next_floats l.thread

abbrev pub decreases-loop-rest : goal.decreases-loop-rest
decreases-loop-rest l = length l.rest
