use Rattle.std.proofs.Common.{arith, get_or, refl}
use Rattle.odd_sets.proofs.Names.{eq-eqb, nat_tests}
use Rattle.odd_sets.proofs.RaisedLemmas.{lowered, count_at, at_drop}
use Rattle.odd_sets.proofs.heights.lower.Goals as goal

pub bounds-heights-m : goal.bounds-heights-m
bounds-heights-m c =
    let h = c.requires.within (get_or c.args.members.now c.loop-m.m-index 0)
    (count_at c.args.members.now c.loop-m.m-index c.loop-m-test.true) in
    omega (arith, h, c.loop-m.auto.heights)

pub bounds-heights-m-in-loop-m : goal.bounds-heights-m-in-loop-m
bounds-heights-m-in-loop-m c =
    let h = c.requires.within (get_or c.args.members.now c.loop-m.m-index 0)
    (count_at c.args.members.now c.loop-m.m-index c.loop-m-test.true) in
    omega (arith, h, c.loop-m.auto.heights)

pub loop-m-preserved : goal.loop-m-preserved
loop-m-preserved c = λ x.
    let m = get_or c.args.members.now c.loop-m.m-index 0 in
    let h = c.requires.within m (count_at c.args.members.now c.loop-m.m-index c.loop-m-test.true) in
    lowered x c.loop-m.m-index m c.args.by c.args.members.now c.loop-m.heights _ _ c.loop-m-test.true refl
    (omega (arith, h, c.loop-m.auto.heights))
    (grind (arith, nat_tests, at_drop, eq-eqb, c.loop-m.m-index, c.loop-m-test.true, (c.requires.fits m), (c.loop-m.invariant m)))
    (c.loop-m.invariant x)
