use Rattle.route_texts.proofs.ReportLemmas.{blocks_behind, fewer_left, reports_on}
use Rattle.route_texts.proofs.sewing_reports.reports_of.Goals as goal

pub loop-piece-preserved : goal.loop-piece-preserved
loop-piece-preserved c = record {
  on = reports_on _ _ _ _ _ _ _ _ _ _ c.loop-piece.invariant.on c.in-Some.ensures.cases.0 c.in-Some-split_first.ensures.cases.0
      (rw c.report_of.ensures at c.in_ok-push.ensures.ok);
  blocks = blocks_behind _ _ _ c.loop-piece.invariant.blocks c.in-Some.ensures.cases.0;
  few = fewer_left _ _ _ _ c.loop-piece.invariant.few c.in-Some.ensures.cases.0;
}
