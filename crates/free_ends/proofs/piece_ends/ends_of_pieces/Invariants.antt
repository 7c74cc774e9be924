use Rattle.std.proofs.Common.{List, length, ◌++◌}
use Rattle.free_ends.specs.PieceEnds.{AreFound}
use Rattle.free_ends.specs.declared.piece_ends.PieceEnds.{PieceEnds}
use Rattle.free_ends.proofs.piece_ends.ends_of_pieces.Given as goal

-- whatever is found of the pieces that are left goes on from what is found so far
abbrev pub invariant-loop-piece : goal.invariant-loop-piece
invariant-loop-piece l = (more : List PieceEnds) → AreFound l.rest more → AreFound l.pieces (l.all ++ more)

abbrev pub decreases-loop-piece : goal.decreases-loop-piece
decreases-loop-piece l = length l.rest
