use Rattle.std.proofs.Common.{◌+◌, ◌∙◌, length, length-set}
use Rattle.euler_tour.proofs.Names.{slice_get-get_or}
use Rattle.euler_tour.proofs.EndLemmas.{chain_step}
use Rattle.euler_tour.proofs.line_ends.chain.Goals as goal
use Rattle.euler_tour.proofs.CallerLemmas.{ends_are_below}

pub add_end-requires-clause-there : goal.add_end-requires-clause-there
add_end-requires-clause-there c =
    let here = slice_get-get_or c.args.edges.now c.loop-edge.edge-index _ c.loop-edge-test.true in
    rw c.loop-edge.invariant.junctions (ends_are_below c.args.junctions c.args.edges.now c.loop-edge.edge-index _ c.requires.ends here).0

pub add_end-requires-in-loop-edge-clause-there : goal.add_end-requires-in-loop-edge-clause-there
add_end-requires-in-loop-edge-clause-there c =
    let here = slice_get-get_or c.args.edges.now c.loop-edge.edge-index _ c.loop-edge-test.true in
    rw (
      c.in_ok-add_end.ensures.last,
      length-set c.loop-edge.ends.last.items _ (length c.loop-edge.ends.before.items + 1),
      c.loop-edge.invariant.junctions,
    )
    (ends_are_below c.args.junctions c.args.edges.now c.loop-edge.edge-index _ c.requires.ends here).1

pub loop-edge-preserved : goal.loop-edge-preserved
loop-edge-preserved c =
    let here = slice_get-get_or c.args.edges.now c.loop-edge.edge-index _ c.loop-edge-test.true in
    let low = ends_are_below c.args.junctions c.args.edges.now c.loop-edge.edge-index _ c.requires.ends here in
    let old = c.loop-edge.ends in
    let new = c.add_end-in-loop-edge.new.ends in
    let all = chain_step c.args.edges.now c.loop-edge.edge-index _ old.last.items c.add_end.new.ends.last.items new.last.items
    old.before.items c.add_end.new.ends.before.items new.before.items here
    (rw c.loop-edge.invariant.junctions low.0) (rw c.loop-edge.invariant.junctions low.1) c.loop-edge.invariant.all
    c.in_ok-add_end.ensures.last c.in_ok-add_end.ensures.before c.in_ok-add_end-2.ensures.last c.in_ok-add_end-2.ensures.before
    c.loop-edge.invariant.last c.loop-edge.invariant.before in
    record { last = all.0; before = all.1; junctions = all.2 ∙ c.loop-edge.invariant.junctions; all = all.3 }
