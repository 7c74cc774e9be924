use Rattle.std.proofs.Common.{◌≡◌, ◌++◌, length, map}
use Rattle.met_drawings.proofs.copies.ones.Given as goal

-- one for each line so far, and those of the others
abbrev pub invariant-loop-rest : goal.invariant-loop-rest
invariant-loop-rest l = l.ones ++ map (λ line. 1) l.rest ≡ map (λ line. 1) l.lines

abbrev pub decreases-loop-rest : goal.decreases-loop-rest
decreases-loop-rest l = length l.rest
