use Rattle.std.proofs.Common.{◌≡◌, ◌++◌, ◌+◌, length}
use Rattle.drawing_reports.specs.LookTexts.{look_piece_lines}
use Rattle.drawing_reports.proofs.look_texts.put_pieces.Given as goal

-- the lines so far, and those of the pieces that are left
abbrev pub invariant-loop-piece : goal.invariant-loop-piece
invariant-loop-piece l = record {
  numbered : l.index + length l.rest ≡ length l.pieces;
  lines : l.text ++ look_piece_lines l.index l.rest l.left ≡ l.fn.text ++ look_piece_lines 0 l.pieces l.stitches;
}

abbrev pub decreases-loop-piece : goal.decreases-loop-piece
decreases-loop-piece l = length l.rest
