use Rattle.std.proofs.Common.{◌<◌, length, arith}
use Rattle.near_pieces.proofs.Names.{IsNode}
use Rattle.near_pieces.proofs.NodeLemmas.{fewer_left, next_is_node, no_less_after, some_left, tried_all, tried_next}
use Rattle.near_pieces.proofs.exhaustive.+search.Goals as goal
use Rattle.near_pieces.proofs.exhaustive.+search.Goals.{then-next-best+in_ok-search, else-next-best}

pub search-requires : goal.search-requires
search-requires t c =
    let below : c.loop-index.index < length c.args.node.now.left = omega (arith, c.loop-index-test.true) in
    let fewer : length c.in_ok-next.next.left < length c.args.node.now.left =
    fewer_left c.args.visits.now c.args.node.now c.in_ok-next.next c.loop-index.index below c.in_ok-next.ensures.value in
    let next : IsNode c.args.visits.now c.args.start c.in_ok-next.next =
    next_is_node c.args.visits.now c.args.start c.args.node.now c.in_ok-next.next c.loop-index.index c.requires.node below
    c.in_ok-next.ensures.value c.in_ok-next.ensures.inside in
    (omega (arith, c.decreases, fewer), (next, c.loop-index.invariant.measured))

pub loop-index-preserved : goal.loop-index-preserved
loop-index-preserved t c =
    let below : c.loop-index.index < length c.args.node.now.left = omega (arith, c.loop-index-test.true) in
    elim c.if-next-best.branch [
      | then-next-best+in_ok-search w ↦ rw w.best-is (record {
        measured = w.search.ensures.measured;
        no_more = omega (arith, w.search.ensures.no_more, c.loop-index.invariant.no_more);
        tried = tried_next c.args.visits.now c.args.node.now _ c.loop-index.index c.loop-index.best.travel _ below
            c.in_ok-next.ensures.value c.loop-index.invariant.tried w.search.ensures.no_more w.in_ok-search.ensures.least;
      })
      | else-next-best w ↦ rw w.best-is (record {
        measured = c.loop-index.invariant.measured;
        no_more = c.loop-index.invariant.no_more;
        tried = tried_next c.args.visits.now c.args.node.now _ c.loop-index.index c.loop-index.best.travel _ below
            c.in_ok-next.ensures.value c.loop-index.invariant.tried (omega (arith))
            (no_less_after c.args.visits.now c.in_ok-next.next c.loop-index.best.travel (omega (arith, w.if-next-best.false)));
      })
    ]

pub returns-clause-least : goal.returns-clause-least
returns-clause-least t c = tried_all c.args.visits.now c.args.node.now c.loop-index.index c.loop-index.best.travel
    (omega (arith, c.loop-index-test.false)) (some_left
    (length c.args.node.now.left) c.is_empty.result c.is_empty.ensures c.if-is_empty.false) c.loop-index.invariant.tried
