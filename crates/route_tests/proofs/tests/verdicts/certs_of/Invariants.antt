use Rattle.std.proofs.Common.{◌≤◌, All, length}
use Rattle.route_verdict.specs.Verdicts.{HasShortLists}
use Rattle.route_tests.proofs.tests.verdicts.certs_of.Given as goal

-- the certificates so far
abbrev pub invariant-loop-said : goal.invariant-loop-said
invariant-loop-said l = record { short : All HasShortLists l.certs; few : length l.certs ≤ l.said-index }
