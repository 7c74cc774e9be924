use Rattle.odd_paths.proofs.Names.{KeepsCosts}
use Rattle.odd_paths.proofs.rounds.backwards.Given as goal

-- the edges so far kept the costs
abbrev pub invariant-loop-key : goal.invariant-loop-key
invariant-loop-key l = KeepsCosts l.edges l.fn.table l.table
