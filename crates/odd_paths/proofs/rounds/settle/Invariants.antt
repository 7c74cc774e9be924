use Rattle.odd_paths.proofs.Names.{KeepsCosts, weight}
use Rattle.odd_paths.proofs.rounds.settle.Given as goal

-- the rounds so far kept the costs
abbrev pub invariant-loop-left : goal.invariant-loop-left
invariant-loop-left l = KeepsCosts l.edges l.fn.table l.table

abbrev pub decreases-loop-left : goal.decreases-loop-left
decreases-loop-left l = weight l.table
