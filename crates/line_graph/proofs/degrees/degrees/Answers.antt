use Rattle.std.proofs.Common.{◌≡◌, ◌∙◌, [], length, ap, replicate, rules, arith}
use Rattle.line_graph.proofs.DegreeLemmas.{count_few, ends_within, next_counted, no_edge, none_counted}
use Rattle.line_graph.proofs.degrees.degrees.Goals as goal
use Rattle.line_graph.proofs.CallerLemmas.{length-degrees_from}

pub loop-edge-init : goal.loop-edge-init
loop-edge-init c =
    let none : c.in_ok-degrees.degrees.items ≡ replicate c.args.junctions 0 = search rules in
    let counted = none ∙ none_counted 0 c.args.junctions in
    record { sized = ap length counted ∙ length-degrees_from [] 0 c.args.junctions; counted = counted }

pub count_ends-requires-clause-a : goal.count_ends-requires-clause-a
count_ends-requires-clause-a c =
    let ends = ends_within c.args.junctions c.args.edges.now c.requires.ends c.loop-edge.edge-index no_edge c.loop-edge-test.true in
    omega (arith, ends.0, c.loop-edge.invariant.sized)

pub count_ends-requires-clause-b : goal.count_ends-requires-clause-b
count_ends-requires-clause-b c =
    let ends = ends_within c.args.junctions c.args.edges.now c.requires.ends c.loop-edge.edge-index no_edge c.loop-edge-test.true in
    omega (arith, ends.1, c.loop-edge.invariant.sized)

pub count_ends-requires-clause-fits : goal.count_ends-requires-clause-fits
count_ends-requires-clause-fits c = λ j.
    let few = count_few c.args.edges.now c.loop-edge.edge-index c.args.junctions j c.loop-edge.degrees.items
    c.loop-edge.invariant.counted in
    omega (arith, c.requires.few, few)

pub loop-edge-preserved : goal.loop-edge-preserved
loop-edge-preserved c =
    let ends = ends_within c.args.junctions c.args.edges.now c.requires.ends c.loop-edge.edge-index no_edge c.loop-edge-test.true in
    let counted = next_counted c.args.edges.now c.loop-edge.edge-index c.args.junctions c.loop-edge.degrees.items
    c.count_ends.ensures.between _ c.loop-edge-test.true ends.0 ends.1 c.loop-edge.invariant.counted c.count_ends.ensures.first
    c.count_ends.ensures.last in
    record { sized = ap length counted ∙ length-degrees_from _ 0 c.args.junctions; counted = counted }
