use Rattle.std.proofs.Common.{length}
use Rattle.route_core.proofs.DistanceLemmas.{HasRowsBefore}
use Rattle.route_core.proofs.distances.distances.Given as goal

abbrev pub invariant-loop-a : goal.invariant-loop-a
invariant-loop-a l = HasRowsBefore l.rows (length l.terminals) l.a l.table
