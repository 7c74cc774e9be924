use Rattle.std.proofs.Common.{◌≡◌, length, ◌||◌}
use Rattle.odd_paths.proofs.Names.{EndsAreBelow, changes, swept}
use Rattle.odd_paths.proofs.sweeps.sweep.Given as goal

abbrev pub invariant-loop-rest : goal.invariant-loop-rest
invariant-loop-rest l = record {
  ends : EndsAreBelow (length l.row) l.rest;
  reported : (l.changed || changes l.row l.rest) ≡ changes l.fn.row l.edges;
  value : swept l.row l.rest ≡ swept l.fn.row l.edges;
}

abbrev pub decreases-loop-rest : goal.decreases-loop-rest
decreases-loop-rest l = length l.rest
