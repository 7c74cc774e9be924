use Rattle.std.proofs.Common.{◌≡◌, length}
use Rattle.free_ends.proofs.Names.{mate_of}
use Rattle.free_ends.proofs.mates.mate_of.Given as goal

abbrev pub invariant-loop-rest : goal.invariant-loop-rest
invariant-loop-rest l = mate_of l.place l.rest ≡ mate_of l.place l.pairs

abbrev pub decreases-loop-rest : goal.decreases-loop-rest
decreases-loop-rest l = length l.rest
