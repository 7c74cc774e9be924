use Rattle.std.proofs.Common.{◌≡◌, ◌+◌, ◌≤◌, drop, sum_by}
use Rattle.route_texts.specs.SewingReports.{penetrations_of}
use Rattle.route_texts.proofs.piece_sums.report_sums.Given as goal

-- The sums so far and those of the remaining reports are the totals. The costs are at most the number of penetrations.
abbrev pub invariant-loop-report : goal.invariant-loop-report
invariant-loop-report l = record {
  cost : l.cost + sum_by (λ r. r.cost) (drop l.report-index l.reports) ≡ sum_by (λ r. r.cost) l.reports;
  retraced : l.retraced + sum_by (λ r. r.retraced) (drop l.report-index l.reports) ≡ sum_by (λ r. r.retraced) l.reports;
  penetrations : l.penetrations + sum_by penetrations_of (drop l.report-index l.reports) ≡ sum_by penetrations_of l.reports;
  few : l.cost + l.retraced ≤ l.penetrations;
}
