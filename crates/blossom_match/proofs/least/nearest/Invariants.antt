use Rattle.std.proofs.Common.{drop}
use Rattle.blossom_match.proofs.Names.{branches_in}
use Rattle.blossom_match.proofs.CandidateLemmas.{IsBelow}
use Rattle.blossom_match.proofs.least.nearest.Given as goal

-- an outer vertex of the remaining branches has that slack
abbrev pub invariant-loop-b : goal.invariant-loop-b
invariant-loop-b l = IsBelow l.t l.heights (drop l.b-index (branches_in l.sets l.tree)) l.to l.left
