use Rattle.std.proofs.Common.{◌<◌, ap, arith, get_or, length}
use Rattle.near_pieces.proofs.Names.{visit_at}
use Rattle.near_pieces.proofs.RootLemmas.{way_below}
use Rattle.near_pieces.proofs.StopLemmas.{drop_index, more_stops}
use Rattle.near_pieces.specs.declared.stop.Reached.{Reached}
use Rattle.near_pieces.specs.declared.stop.Stop.{Stop}
use Rattle.near_pieces.proofs.stop.stops_of.Goals as goal

pub loop-index-preserved : goal.loop-index-preserved
loop-index-preserved c =
    let below : c.loop-index.index < length c.args.order.now = omega (arith, c.loop-index-test.true) in
    let place = get_or c.args.order.now c.loop-index.index 0 in
    record {
      whole = more_stops c.args.visits.now c.loop-index.stops _ _ c.args.order.now c.loop-index.index place c.loop-index.at.from
          c.loop-index.at.travel c.stop_after-stop.result c.after-at.result c.in_ok-push.ensures.ok c.stop_after-stop.ensures
          c.after-at.ensures (drop_index c.args.order.now c.loop-index.index below) c.loop-index.invariant.whole;
      small = omega (
        arith,
        below,
        c.loop-index.invariant.small,
        ap (λ (r : Reached). r.travel) c.after-at.ensures,
        ap (λ (s : Stop). s.travel) c.stop_after-stop.ensures,
        way_below c.loop-index.at.from (visit_at c.args.visits.now place),
      );
    }
