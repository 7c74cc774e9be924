use Rattle.std.proofs.Common.{◌<◌, ◌+◌, ◌^◌, All}
use Rattle.route_tests.proofs.tests.cert_parts.members_of.Given as goal

-- the members so far
abbrev pub invariant-loop-number : goal.invariant-loop-number
invariant-loop-number l = All (λ j. j + 1 < 2 ^ 32) l.members
