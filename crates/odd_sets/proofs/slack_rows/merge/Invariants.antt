use Rattle.std.proofs.Common.{◌≡◌, ◌≤◌, ◌<◌, ℕ, get_or, min}
use Rattle.odd_sets.proofs.Names.{lowered_slack}
use Rattle.odd_sets.proofs.slack_rows.merge.Given as goal

-- the cells so far, and those that are left
abbrev pub invariant-loop-x : goal.invariant-loop-x
invariant-loop-x l = record {
  done : (x : ℕ) → x < l.x → get_or l.cells x 0 ≡ min (lowered_slack l.dual (get_or l.near x 0)) (get_or l.fn.cells x 0);
  rest : (x : ℕ) → l.x ≤ x → get_or l.cells x 0 ≡ get_or l.fn.cells x 0;
}
