use Rattle.std.proofs.Common.{◌≡◌, length}
use Rattle.near_pieces.specs.Visits.{nearest_of}
use Rattle.near_pieces.proofs.travelling.nearest.Given as goal

-- The nearest of the points so far, with those that are left, has the nearest of all.
abbrev pub invariant-loop-rest : goal.invariant-loop-rest
invariant-loop-rest l = nearest_of l.from l.best l.rest ≡ nearest_of l.fn.from l.fn.first l.fn.others

abbrev pub decreases-loop-rest : goal.decreases-loop-rest
decreases-loop-rest l = length l.rest
