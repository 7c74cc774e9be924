use Rattle.std.proofs.Common.{◌≡◌, ◌≤◌, ◌-◌}
use Rattle.design_review.specs.Differences.{thread_difference_from}
use Rattle.design_review.proofs.threads_compared.difference_among.Given as goal

-- no difference so far, and the first one is that of the blocks that are left
abbrev pub invariant-loop-block : goal.invariant-loop-block
invariant-loop-block l = record {
  few : l.block ≤ l.blocks;
  found : thread_difference_from l.first l.second l.block (l.blocks - l.block) ≡ thread_difference_from l.first l.second 0 l.blocks;
}

abbrev pub decreases-loop-block : goal.decreases-loop-block
decreases-loop-block l = l.blocks - l.block
