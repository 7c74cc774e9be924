use Rattle.std.proofs.Common.{◌++◌, ◌≡◌, drop, map}
use Rattle.drawing_picture.proofs.Names.{marks_of_pieces, graph_of}
use Rattle.drawing_picture.proofs.junction_marks.junction_marks.Given as goal

-- the marks so far, and those of the pieces that are left, are all
abbrev pub invariant-loop-piece : goal.invariant-loop-piece
invariant-loop-piece l = l.marks ++ marks_of_pieces (map graph_of (drop l.piece-index l.pieces)) ≡ marks_of_pieces (map graph_of l.pieces)
