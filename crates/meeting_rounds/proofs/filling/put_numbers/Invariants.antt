use Rattle.std.proofs.Common.{◌≡◌, ◌++◌}
use Rattle.meeting_rounds.specs.FilledLines.{points_put}
use Rattle.meeting_rounds.proofs.filling.put_numbers.Given as goal

-- the points so far, and those of the numbers that are left
abbrev pub invariant-loop-n : goal.invariant-loop-n
invariant-loop-n l = l.filled ++ points_put l.p l.n-iterator ≡ l.fn.filled ++ points_put l.p l.numbers.keys
