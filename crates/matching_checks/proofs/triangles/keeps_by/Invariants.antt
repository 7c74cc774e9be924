use Rattle.std.proofs.Common.{ℕ, ◌+◌, ◌<◌, ◌≤◌}
use Rattle.odd_sets.specs.Tables.{entry}
use Rattle.matching_checks.proofs.triangles.keeps_by.Given as goal

-- no shorter way so far
abbrev pub invariant-loop-c : goal.invariant-loop-c
invariant-loop-c l = (x : ℕ) → x < l.c → entry l.t l.a x ≤ entry l.t l.a l.b + entry l.t l.b x
