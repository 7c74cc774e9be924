use Rattle.std.proofs.Common.{◌<◌, ℕ, All, append-nil, arith, length, map, refl}
use Rattle.drawing_picture.proofs.Names.{All-head, All-tail, Piece, Zip-more, append_assoc, bands_of_pieces, either_empty_from_Zip, graph_of, nat_tests}
use Rattle.drawing_picture.proofs.ZipLemmas.{shorter_ends}
use Rattle.drawing_picture.proofs.line_bands.put_pieces.Goals as goal

-- the lines of a piece are lines of the drawing
abbrev There : ℕ → Piece → Type 0
There n p = All (λ line. line < n) p.lines

pub put_lines-requires : goal.put_lines-requires
put_lines-requires c =
    let more = Zip-more c.loop-piece.piece-iterator c.next.new.self _ _ c.in-Some.is c.next.ensures.steps in
    rw c.as_slice-in-loop-piece.ensures
    (All-head (There (length c.args.d.now.lines)) c.in-Some.piece.now _ (rw more.0 at c.loop-piece.invariant.there))

pub loop-piece-preserved : goal.loop-piece-preserved
loop-piece-preserved c =
    let more = Zip-more c.loop-piece.piece-iterator c.next.new.self _ _ c.in-Some.is c.next.ensures.steps in
    record {
      there = All-tail (There (length c.args.d.now.lines)) c.in-Some.piece.now _ (rw more.0 at c.loop-piece.invariant.there);
      bands = grind (arith, nat_tests, append_assoc, more.0, more.1);
    }

pub returns : goal.returns
returns c =
    let end = either_empty_from_Zip c.loop-piece.piece-iterator c.next.new.self _ c.in-None.is c.next.ensures.steps in
    grind (arith, append-nil, shorter_ends (λ ps cs. bands_of_pieces c.args.d.now (map graph_of ps) cs) (λ ys. refl) (λ x xs. refl) _ _ end)
