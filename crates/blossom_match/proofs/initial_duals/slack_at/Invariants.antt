use Rattle.std.proofs.Common.{◌≢◌, ◌≤◌, ◌<◌, ◌+◌, ◌*◌, ℕ, get_or}
use Rattle.blossom_match.proofs.Names.{entry, MAX_DISTANCE}
use Rattle.blossom_match.proofs.initial_duals.slack_at.Given as goal

-- with the dual no slack to the vertices so far is negative
abbrev pub invariant-loop-other : goal.invariant-loop-other
invariant-loop-other l = record {
  slack : (b : ℕ) → b < l.other → l.place ≢ b → l.least + get_or l.heights b 0 ≤ 2 * entry l.t l.place b;
  short : l.least ≤ 2 * MAX_DISTANCE;
}
