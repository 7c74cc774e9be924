use Rattle.std.proofs.Common.{◌≡◌, ◌++◌, ◌+◌, drop, sum_by}
use Rattle.route_texts.specs.SewingReports.{penetrations_of, piece_lines}
use Rattle.route_texts.proofs.sewing_reports.put_reports.Given as goal

-- the lines and the sum so far, and those of the pieces that are left
abbrev pub invariant-loop-piece : goal.invariant-loop-piece
invariant-loop-piece l = record {
  lines : l.text ++ piece_lines l.way (drop l.piece-index l.pieces) ≡ piece_lines l.way l.pieces;
  sum : l.penetrations + sum_by penetrations_of (drop l.piece-index l.pieces) ≡ sum_by penetrations_of l.pieces;
}
