use Rattle.std.proofs.Common.{◌≤◌, length}
use Rattle.odd_cuts.specs.CutFaults.{HaveNumberedMembers}
use Rattle.route_tests.proofs.tests.cut_checks.single_cuts.Given as goal

-- the cuts so far
abbrev pub invariant-loop-number : goal.invariant-loop-number
invariant-loop-number l = record { numbered : HaveNumberedMembers l.cuts; few : length l.cuts ≤ l.number-index }
