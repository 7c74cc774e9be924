use Rattle.std.proofs.Common.{◌≡◌, ◌+◌, ◌==◌, ◌≤◌, length}
use Rattle.near_pieces.proofs.Names.{Piece, prefix_len}
use Rattle.near_pieces.proofs.piece_runs.in_block.Given as goal

-- The pieces so far are of the block.
abbrev pub invariant-loop-rest : goal.invariant-loop-rest
invariant-loop-rest l = record {
  counted : l.count + prefix_len (λ (piece : Piece). piece.block == l.block) l.rest
      ≡ prefix_len (λ (piece : Piece). piece.block == l.fn.block) l.fn.pieces;
  most : l.count + length l.rest ≤ length l.fn.pieces;
}

abbrev pub decreases-loop-rest : goal.decreases-loop-rest
decreases-loop-rest l = length l.rest
