use Rattle.std.proofs.Common.{◌≡◌, ◌+◌, ◌*◌, ◌≤◌, drop}
use Rattle.line_graph.specs.declared.limits.TheConstants.{MAX_LINES}
use Rattle.route_texts.specs.PieceSums.{total_junctions, total_odd_junctions}
use Rattle.route_texts.proofs.piece_sums.junction_sums.Given as goal

-- The sums so far and those of the remaining pieces are the totals. A piece adds at most what its lines allow.
abbrev pub invariant-loop-piece : goal.invariant-loop-piece
invariant-loop-piece l = record {
  junctions : l.junctions + total_junctions (drop l.piece-index l.pieces) ≡ total_junctions l.pieces;
  odd : l.odd + total_odd_junctions (drop l.piece-index l.pieces) ≡ total_odd_junctions l.pieces;
  few_junctions : l.junctions ≤ l.piece-index * (MAX_LINES + 1);
  few_odd : l.odd ≤ l.piece-index * (MAX_LINES + 1);
}
