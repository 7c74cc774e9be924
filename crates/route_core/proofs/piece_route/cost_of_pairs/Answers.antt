use Rattle.std.proofs.Common.{List, All, subst, ap, arith}
use Rattle.route_core.proofs.Names.{All-tail, Pair, IsPairOf, nat_tests}
use Rattle.route_core.proofs.piece_route.cost_of_pairs.Goals as goal

pub loop-pair-preserved : goal.loop-pair-preserved
loop-pair-preserved c = record {
  there = All-tail (IsPairOf c.args.rows.now) c.in-Some.pair.now c.in-Some.after.now
      (subst (λ (qs : List Pair). All (IsPairOf c.args.rows.now) qs) c.in-Some.ensures.cases.0 c.loop-pair.invariant.there);
  whole = grind (arith, nat_tests, ap, c.in-Some.ensures.cases.0, c.cost_of_pair-cost.ensures, c.loop-pair.invariant.whole);
}
