use Rattle.std.proofs.Common.{◌≤◌, length}
use Rattle.odd_cuts.specs.CutFaults.{HaveNumberedMembers}
use Rattle.route_tests.proofs.tests.cut_checks.cuts_of.Given as goal

-- the cuts so far
abbrev pub invariant-loop-weight : goal.invariant-loop-weight
invariant-loop-weight l = record { numbered : HaveNumberedMembers l.cuts; few : length l.cuts ≤ l.weight-index }
