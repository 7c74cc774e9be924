use Rattle.std.proofs.Common.{drop}
use Rattle.blossom_match.proofs.Names.{IsSlackFromOne}
use Rattle.blossom_match.proofs.least.first_with_slack.Given as goal

-- a place that is left is the one, if any is
abbrev pub invariant-loop-a : goal.invariant-loop-a
invariant-loop-a l = IsSlackFromOne l.t l.heights l.xs l.to l.left → IsSlackFromOne l.t l.heights (drop l.a-index l.xs) l.to l.left
