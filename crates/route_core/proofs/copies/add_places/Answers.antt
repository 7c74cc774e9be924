use Rattle.route_core.proofs.CopyLemmas.{adds_one, first_below, left_one, get_within}
use Rattle.route_core.proofs.copies.add_places.Goals as goal
use Rattle.std.proofs.Common.{ap, arith}
use Rattle.route_core.proofs.Names.{nat_tests}

pub add_one-requires-clause-few : goal.add_one-requires-clause-few
add_one-requires-clause-few c =
    grind (arith, nat_tests, get_within, ap, c.in-Some.ensures.cases.0, c.loop-k.invariant.few)

pub loop-k-preserved : goal.loop-k-preserved
loop-k-preserved c =
    let i = c.loop-k.invariant in
    let cs = c.loop-k.copies.items in
    let next = c.add_one.new.copies.items in
    let left = left_one cs next c.loop-k.rest.now c.in-Some.after.now c.in-Some.k.now c.in-Some.ensures.cases.0 c.add_one.ensures
    i.there i.few in
    record {
      there = left.there;
      few = left.few;
      whole = λ new. λ adds. i.whole new (adds_one cs next c.loop-k.rest.now c.in-Some.after.now new c.in-Some.k.now
          c.in-Some.ensures.cases.0
          c.add_one.ensures
          (first_below cs c.loop-k.rest.now c.in-Some.after.now c.in-Some.k.now c.in-Some.ensures.cases.0 i.there) adds);
    }
