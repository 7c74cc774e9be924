use Rattle.std.proofs.Common.{◌≡◌, ◌+◌, All, length, map}
use Rattle.std.specs.Iterator.Adapters.{zip_first, zip_second}
use Rattle.std.specs.Slice.Iter.{iter_rest}
use Rattle.route_verdict.proofs.Names.{graph_of, HasShortLists, pieces_reason}
use Rattle.route_verdict.proofs.piece_reasons.wrong_piece.Given as goal

-- the pieces so far are right, so all depends on those that are left
abbrev pub invariant-loop-piece : goal.invariant-loop-piece
invariant-loop-piece l =
    let left = iter_rest (zip_first l.piece-iterator) in
    let said = iter_rest (zip_second l.piece-iterator) in
    record {
      count : l.number + length left ≡ length l.pieces + 1;
      short : All HasShortLists said;
      reasons : pieces_reason l.number (map graph_of left) said ≡ pieces_reason 1 (map graph_of l.pieces) l.certs;
    }
