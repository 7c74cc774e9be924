use Rattle.std.proofs.Common.{length}
use Rattle.route_core.proofs.Names.{graph_of}
use Rattle.route_core.proofs.PairLemmas.{LeftPairs}
use Rattle.route_core.proofs.copies.copies_of.Given as goal

abbrev pub invariant-loop-pair : goal.invariant-loop-pair
invariant-loop-pair l = LeftPairs (graph_of l.p) l.rows l.pairs l.copies.items l.rest

abbrev pub decreases-loop-pair : goal.decreases-loop-pair
decreases-loop-pair l = length l.rest
