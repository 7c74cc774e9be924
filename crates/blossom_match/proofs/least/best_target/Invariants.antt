use Rattle.std.proofs.Common.{take}
use Rattle.blossom_match.proofs.Names.{IsBestCandidate}
use Rattle.blossom_match.proofs.least.best_target.Given as goal

-- the nearest of the places so far
abbrev pub invariant-loop-b : goal.invariant-loop-b
invariant-loop-b l = IsBestCandidate l.heights l.reach l.kind (take l.b-index l.ys) l.fn.best l.least
