use Rattle.std.proofs.Common.{◌≡◌, ◌∷◌, [], refl, rules}
use Rattle.line_graph.proofs.DrawingNames.{drop_more}
use Rattle.line_graph.proofs.NeedleLemmas.{first_sewn, next_segment, segment_sewn}
use Rattle.line_graph.proofs.needle_points.needles_along.Goals as goal

pub loop-next-init : goal.loop-next-init
loop-next-init c =
    let one : c.push.new.self ≡ c.in-Some.first.now ∷ [] = search rules in
    rw one (first_sewn c.args.step c.args.points.now c.in-Some.first.now c.in-Some.after.now c.in-Some.ensures.cases.0 c.requires.line)

pub split_into-requires-clause-to : goal.split_into-requires-clause-to
split_into-requires-clause-to c =
    (next_segment c.args.step c.args.points.now c.loop-next.before _ _ _ c.loop-next.needles c.loop-next.invariant
    (drop_more c.in-Some.after.now c.loop-next.next-index _ c.loop-next-test.true)).1

pub loop-next-preserved : goal.loop-next-preserved
loop-next-preserved c =
    rw c.in_ok-split_into.ensures.value
    (segment_sewn c.args.step c.args.points.now c.loop-next.before _ _ _ c.loop-next.needles _ c.loop-next.invariant
    (drop_more c.in-Some.after.now c.loop-next.next-index _ c.loop-next-test.true) refl c.in_ok-split_into.ensures.leads)
