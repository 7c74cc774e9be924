use Rattle.std.proofs.Common.{◌<◌, arith, length}
use Rattle.near_pieces.proofs.StopLemmas.{drop_more, part_at, part_first, rejoins}
use Rattle.near_pieces.proofs.least_travel.along.Goals as goal

pub step-now-requires : goal.step-now-requires
step-now-requires c = (part_first c.args.visits.now _ _
    (part_at c.args.visits.now c.args.stops.now c.loop-index.index _ c.requires (omega (arith, c.loop-index-test.true)))).0

pub returns-then-is_at-clause-from : goal.returns-then-is_at-clause-from
returns-then-is_at-clause-from c =
    let below : c.loop-index.index < length c.args.stops.now = omega (arith, c.loop-index-test.true) in
    (rejoins c.args.visits.now c.args.stops.now c.split_at.result.1.now c.loop-index.index _ c.loop-index.now.from
    c.step-now.result.from _ c.loop-index.now.travel c.step-now.result.travel _ c.as_known.result
    (part_at c.args.visits.now c.args.stops.now c.loop-index.index _ c.requires below)
    (drop_more c.args.stops.now c.loop-index.index _ below) c.step-now.ensures.from c.step-now.ensures.least
    (c.is_at.ensures c.if-is_at.true) c.split_at.ensures.back c.as_known.ensures.from c.as_known.ensures.least
    c.loop-index.invariant.through c.loop-index.invariant.least).0

pub returns-then-is_at-clause-least : goal.returns-then-is_at-clause-least
returns-then-is_at-clause-least c =
    let below : c.loop-index.index < length c.args.stops.now = omega (arith, c.loop-index-test.true) in
    (rejoins c.args.visits.now c.args.stops.now c.split_at.result.1.now c.loop-index.index _ c.loop-index.now.from
    c.step-now.result.from _ c.loop-index.now.travel c.step-now.result.travel _ c.as_known.result
    (part_at c.args.visits.now c.args.stops.now c.loop-index.index _ c.requires below)
    (drop_more c.args.stops.now c.loop-index.index _ below) c.step-now.ensures.from c.step-now.ensures.least
    (c.is_at.ensures c.if-is_at.true) c.split_at.ensures.back c.as_known.ensures.from c.as_known.ensures.least
    c.loop-index.invariant.through c.loop-index.invariant.least).1
