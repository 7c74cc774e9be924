use Rattle.std.proofs.Common.{append-nil, arith, rules, tests}
use Rattle.std.proofs.lemmas.Iterator.Consumers.{YieldsList-end, YieldsList-turn}
use Rattle.std.proofs.lemmas.Iterator.Splits.{YieldsList-from_slice_split}
use Rattle.stitch_trace.proofs.Names.{blocks_of, is_stop, nat_tests, strands_from, at_drop_all, length_push}
use Rattle.stitch_trace.proofs.StrandLemmas.{blocks_split, strands_next}
use Rattle.stitch_trace.proofs.strands.strands.Goals as goal

pub loop-some-preserved : goal.loop-some-preserved
loop-some-preserved c =
    let blocks = YieldsList-from_slice_split _ is_stop c.args.acts.now (search rules) (search rules) (search rules)
    (λ x b q k. search (rules, tests)) in
    let turn = YieldsList-turn blocks c.loop-some.yielded _ c.loop-some.yielded_by _ _ c.in-Some.some c.in-Some.is c.next.ensures.steps in
    record {
      count = omega (arith, length_push c.loop-some.yielded c.in-Some.some, c.loop-some.invariant.count);
      all = strands_next c.args.design.now c.args.acts.now c.in-Some.some.now _ c.loop-some.strands.items _ _
          (rw c.loop-some.invariant.count at turn) (search rules) c.loop-some.invariant.all;
    }

pub returns : goal.returns
returns c =
    let blocks = YieldsList-from_slice_split _ is_stop c.args.acts.now (search rules) (search rules) (search rules)
    (λ x b q k. search (rules, tests)) in
    let last = YieldsList-end blocks c.loop-some.yielded _ c.loop-some.yielded_by _ _ c.in-None.is c.next.ensures.steps in
    grind (
      arith,
      nat_tests,
      append-nil c.loop-some.strands.items,
      blocks_split c.args.acts.now,
      last.1,
      at_drop_all (strands_from c.args.design.now c.loop-some.block) (blocks_of c.args.acts.now) c.loop-some.block,
    )
