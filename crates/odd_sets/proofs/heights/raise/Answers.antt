use Rattle.std.proofs.Common.{arith, get_or, refl}
use Rattle.odd_sets.proofs.RaisedLemmas.{raised, count_at}
use Rattle.odd_sets.proofs.heights.raise.Goals as goal

pub bounds-heights-m : goal.bounds-heights-m
bounds-heights-m c =
    let h = c.requires.within (get_or c.args.members.now c.loop-m.m-index 0)
    (count_at c.args.members.now c.loop-m.m-index c.loop-m-test.true) in
    omega (arith, h, c.loop-m.auto.heights)

pub bounds-heights-m-in-loop-m : goal.bounds-heights-m-in-loop-m
bounds-heights-m-in-loop-m c =
    let h = c.requires.within (get_or c.args.members.now c.loop-m.m-index 0)
    (count_at c.args.members.now c.loop-m.m-index c.loop-m-test.true) in
    omega (arith, h, c.loop-m.auto.heights)

pub loop-m-preserved : goal.loop-m-preserved
loop-m-preserved c = λ x.
    let h = c.requires.within (get_or c.args.members.now c.loop-m.m-index 0)
    (count_at c.args.members.now c.loop-m.m-index c.loop-m-test.true) in
    raised x c.loop-m.m-index (get_or c.args.members.now c.loop-m.m-index 0) c.args.by c.args.members.now c.loop-m.heights _
    c.loop-m-test.true refl
    (omega (arith, h, c.loop-m.auto.heights)) (c.loop-m.invariant x)
