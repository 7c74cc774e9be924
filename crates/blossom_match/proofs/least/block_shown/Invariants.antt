use Rattle.std.proofs.Common.{length, ◌-◌, ◌≢◌, ◌≤◌, ◌<◌, ℕ}
use Rattle.blossom_match.proofs.Names.{masked_slack}
use Rattle.blossom_match.proofs.least.block_shown.Given as goal

-- no place of the blocks so far
abbrev pub invariant-loop-at : goal.invariant-loop-at
invariant-loop-at l = record {
  within : l.at ≤ length l.reach;
  none : (x : ℕ) → x < l.at → l.slack ≢ masked_slack l.heights l.reach l.mask x;
}

abbrev pub decreases-loop-at : goal.decreases-loop-at
decreases-loop-at l = length l.reach - l.at
