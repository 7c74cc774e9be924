use Rattle.std.proofs.Common.{arith, get_or, length, length-set, ◌<◌}
use Rattle.odd_sets.proofs.Names.{nat_tests}
use Rattle.odd_sets.proofs.RaisedLemmas.{count_at}
use Rattle.odd_sets.proofs.SlackRowLemmas.{put_next, put_others}
use Rattle.odd_sets.proofs.slack_rows.put.Goals as goal

pub bounds-cells-a : goal.bounds-cells-a
bounds-cells-a c = omega (
  arith,
  c.requires (get_or c.args.places.now c.loop-a.a-index 0) (count_at c.args.places.now c.loop-a.a-index c.loop-a-test.true),
)

pub loop-a-preserved : goal.loop-a-preserved
loop-a-preserved c =
    let low : get_or c.args.places.now c.loop-a.a-index 0 < length c.loop-a.cells = omega (
      arith,
      c.requires (get_or c.args.places.now c.loop-a.a-index 0) (count_at c.args.places.now c.loop-a.a-index c.loop-a-test.true),
    ) in
    record {
      on = put_next c.args.places.now c.loop-a.cells c.loop-a.a-index c.args.left c.loop-a-test.true low c.loop-a.invariant.on;
      off = put_others c.args.places.now c.loop-a.cells c.args.cells.now c.loop-a.a-index c.args.left c.loop-a-test.true
          c.loop-a.invariant.off;
      size = grind (arith, nat_tests, c.loop-a.invariant.size, length-set);
    }
