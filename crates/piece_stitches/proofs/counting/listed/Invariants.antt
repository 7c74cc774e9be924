use Rattle.std.proofs.Common.{◌≡◌, ◌++◌, ◌+◌, ◌≤◌, All, length}
use Rattle.line_graph.specs.declared.limits.TheConstants.{MAX_LINES}
use Rattle.piece_stitches.specs.PieceStitches.{HasLinesOf, HasSmallLengths, stitches_after, stitches_of_pieces}
use Rattle.piece_stitches.proofs.counting.listed.Given as goal

-- with the stitches of the pieces that are left, the list becomes that of all pieces
abbrev pub invariant-loop-piece : goal.invariant-loop-piece
invariant-loop-piece l = record {
  lines : All (HasLinesOf l.d) l.rest;
  small : All HasSmallLengths l.all;
  few : length l.all + length l.rest ≤ MAX_LINES;
  listed : l.all ++ stitches_after l.d l.before l.rest ≡ stitches_of_pieces l.d l.pieces;
}

abbrev pub decreases-loop-piece : goal.decreases-loop-piece
decreases-loop-piece l = length l.rest
