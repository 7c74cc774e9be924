use Rattle.std.proofs.Common.{arith}
use Rattle.free_ends.proofs.TableLemmas.{filled_more}
use Rattle.free_ends.proofs.free_distances.fill.Goals as goal

pub loop-b-preserved : goal.loop-b-preserved
loop-b-preserved c = record {
  from = omega (arith, c.loop-b.invariant.from);
  to = omega arith;
  filled = filled_more c.args.rows.now c.args.a c.loop-b.b c.distance.result c.args.table.now _ c.set.new.self c.loop-b.invariant.from
      (omega arith) c.loop-b.invariant.filled c.set.ensures.places c.set.ensures.entries c.distance.ensures.value;
}
