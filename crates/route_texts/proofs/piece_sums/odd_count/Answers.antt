use Rattle.std.proofs.Common.{◌≡◌, length}
use Rattle.line_graph.specs.PiecesOfDrawings.{graph_of}
use Rattle.line_graph.specs.PieceGraphs.{odd_junctions}
use Rattle.route_texts.specs.OddCounts.{odd_number}
use Rattle.route_texts.proofs.OddCountLemmas.{odds_counted}
use Rattle.route_texts.proofs.piece_sums.odd_count.Goals as goal
use Rattle.line_graph.proofs.CallerLemmas.{degrees_few}

pub count_odd-requires : goal.count_odd-requires
count_odd-requires c = rw c.as_slice.ensures (degrees_few (graph_of c.args.p.now) c.args.p.now.kept)

pub returns-clause-value : goal.returns-clause-value
returns-clause-value c =
    let counted : odd_number c.from.result c.to.result 0 c.as_slice.result.now ≡ length (odd_junctions (graph_of c.args.p.now)) =
    rw (c.from.ensures, c.to.ensures, c.as_slice.ensures) (odds_counted (graph_of c.args.p.now) c.args.p.now.kept) in
    rw (← counted) c.count_odd.ensures.value
