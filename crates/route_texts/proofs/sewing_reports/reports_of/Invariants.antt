use Rattle.std.proofs.Common.{◌+◌, ◌<◌, ◌≤◌, length, All}
use Rattle.line_graph.specs.declared.limits.TheConstants.{MAX_BLOCKS, MAX_LINES}
use Rattle.route_texts.specs.PieceReports.{reports_from}
use Rattle.route_texts.proofs.ReportLemmas.{ReportsOn}
use Rattle.route_texts.proofs.sewing_reports.reports_of.Given as goal

-- with the reports of the pieces that are left, those so far are all
abbrev pub invariant-loop-piece : goal.invariant-loop-piece
invariant-loop-piece l = record {
  on : ReportsOn (reports_from 1 l.pieces l.certs) l.reports l.number l.rest l.left;
  blocks : All (λ p. p.block < MAX_BLOCKS) l.rest;
  few : l.number + length l.rest ≤ MAX_LINES + 1;
}

abbrev pub decreases-loop-piece : goal.decreases-loop-piece
decreases-loop-piece l = length l.rest
