use Rattle.std.proofs.Common.{◌≡◌, ◌++◌, [], length}
use Rattle.met_drawings.specs.Copies.{counts_after}
use Rattle.met_drawings.proofs.copies.counts_left.Given as goal

-- the counts so far, and those of the lines that are left
abbrev pub invariant-loop-rest : goal.invariant-loop-rest
invariant-loop-rest l = l.counts ++ counts_after l.passed l.rest ≡ counts_after [] l.lines

abbrev pub decreases-loop-rest : goal.decreases-loop-rest
decreases-loop-rest l = length l.rest
