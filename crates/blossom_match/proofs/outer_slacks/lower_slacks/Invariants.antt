use Rattle.std.proofs.Common.{◌≡◌, ◌≤◌, ◌<◌, ℕ, get_or}
use Rattle.blossom_match.proofs.Names.{lowered_slack}
use Rattle.blossom_match.proofs.outer_slacks.lower_slacks.Given as goal

-- the cells so far, and those that are left
abbrev pub invariant-loop-x : goal.invariant-loop-x
invariant-loop-x l = record {
  done : (x : ℕ) → x < l.x → get_or l.reach x 0 ≡ lowered_slack l.by (get_or l.fn.reach x 0);
  rest : (x : ℕ) → l.x ≤ x → get_or l.reach x 0 ≡ get_or l.fn.reach x 0;
}
