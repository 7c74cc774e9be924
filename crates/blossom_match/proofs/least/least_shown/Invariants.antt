use Rattle.std.proofs.Common.{◌≤◌, ◌<◌, ℕ}
use Rattle.blossom_match.proofs.Names.{masked_slack, IsMaskedSlack, FAR}
use Rattle.blossom_match.proofs.least.least_shown.Given as goal

-- the least so far
abbrev pub invariant-loop-x : goal.invariant-loop-x
invariant-loop-x l = record {
  least : (x : ℕ) → x < l.x → l.least ≤ masked_slack l.heights l.reach l.mask x;
  is : l.least < FAR → IsMaskedSlack l.heights l.reach l.mask l.least;
}
