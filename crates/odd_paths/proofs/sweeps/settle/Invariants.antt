use Rattle.std.proofs.Common.{ℕ, length, sum}
use Rattle.odd_paths.proofs.Names.{AreWalkCosts}
use Rattle.odd_paths.proofs.sweeps.settle.Given as goal

abbrev pub invariant-loop : goal.invariant-loop
invariant-loop l = (from : ℕ) → AreWalkCosts l.edges (length l.fn.row) from l.fn.row → AreWalkCosts l.edges (length l.fn.row) from l.row

abbrev pub decreases-loop : goal.decreases-loop
decreases-loop l = sum l.row
