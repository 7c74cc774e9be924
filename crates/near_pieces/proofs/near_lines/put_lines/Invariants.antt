use Rattle.std.proofs.Common.{◌≡◌, ◌++◌, length}
use Rattle.near_pieces.proofs.Names.{lines_numbered}
use Rattle.near_pieces.proofs.near_lines.put_lines.Given as goal

-- The lines so far are there, and then the others.
abbrev pub invariant-loop-rest : goal.invariant-loop-rest
invariant-loop-rest l = l.all ++ lines_numbered l.lines l.rest ≡ l.fn.all ++ lines_numbered l.lines l.fn.indexes

abbrev pub decreases-loop-rest : goal.decreases-loop-rest
decreases-loop-rest l = length l.rest
