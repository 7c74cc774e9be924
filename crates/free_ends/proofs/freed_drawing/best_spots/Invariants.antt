use Rattle.std.proofs.Common.{◌≡◌, length}
use Rattle.free_ends.specs.PieceEnds.{with_best_ends}
use Rattle.free_ends.proofs.freed_drawing.best_spots.Given as goal

-- the spots so far, with those of the pieces that are left
abbrev pub invariant-loop-piece : goal.invariant-loop-piece
invariant-loop-piece l = with_best_ends l.is_start l.all.items l.rest l.left ≡ with_best_ends l.is_start l.spots l.pieces l.found

abbrev pub decreases-loop-piece : goal.decreases-loop-piece
decreases-loop-piece l = length l.rest
