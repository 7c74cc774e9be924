use Rattle.double_run.proofs.Names.{graph_of, IsTraversal, traversal_rank}
use Rattle.double_run.proofs.double_walk.double.Given as goal

-- the traversal is one over the piece
abbrev pub invariant-loop-o : goal.invariant-loop-o
invariant-loop-o l = IsTraversal (graph_of l.p) l.o

abbrev pub decreases-loop-o : goal.decreases-loop-o
decreases-loop-o l = traversal_rank l.o
