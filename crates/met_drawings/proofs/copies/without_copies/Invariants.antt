use Rattle.std.proofs.Common.{◌≡◌, ◌++◌, length}
use Rattle.met_drawings.specs.Copies.{uncopied_after, uncopied_lines}
use Rattle.met_drawings.proofs.copies.without_copies.Given as goal

-- the lines so far, and those that are left of the others
abbrev pub invariant-loop-rest : goal.invariant-loop-rest
invariant-loop-rest l = l.left.items ++ uncopied_after l.passed l.rest ≡ uncopied_lines l.lines

abbrev pub decreases-loop-rest : goal.decreases-loop-rest
decreases-loop-rest l = length l.rest
