use Rattle.std.proofs.Common.{◌≡◌, ◌++◌, ◌<◌, All, length, map}
use Rattle.drawing_picture.proofs.Names.{bands_of_pieces, iter_rest, zip_first, zip_second, Piece, graph_of}
use Rattle.drawing_picture.proofs.line_bands.put_pieces.Given as goal

-- the bands so far, and those of the pieces that are left
abbrev pub invariant-loop-piece : goal.invariant-loop-piece
invariant-loop-piece l =
    let left = iter_rest (zip_first l.piece-iterator) in
    record {
      there : All (λ (p : Piece). All (λ line. line < length l.d.lines) p.lines) left;
      bands : l.text ++ bands_of_pieces l.d (map graph_of left) (iter_rest (zip_second l.piece-iterator))
          ≡ l.fn.text ++ bands_of_pieces l.fn.d (map graph_of l.pieces) l.certs;
    }
