use Rattle.std.proofs.Common.{◌≡◌, ◌+◌, ◌++◌, drop, map}
use Rattle.drawing_picture.proofs.Names.{graph_of}
use Rattle.drawing_picture.specs.Labels.{piece_labels}
use Rattle.drawing_picture.proofs.labels.put_piece_labels.Given as goal

-- the labels so far, and those of the pieces that are left
abbrev pub invariant-loop-piece : goal.invariant-loop-piece
invariant-loop-piece l = record {
  counted : l.number ≡ 1 + l.piece-index;
  labels : l.labels ++ piece_labels l.number (map graph_of (drop l.piece-index l.pieces))
      ≡ l.fn.labels ++ piece_labels 1 (map graph_of l.pieces);
}
