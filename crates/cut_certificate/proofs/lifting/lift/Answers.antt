use Rattle.std.proofs.Common.{ap, sym}
use Rattle.cut_certificate.proofs.Names.{Moat, graph_of}
use Rattle.cut_certificate.proofs.FitLemmas.{can_reach, cuts_of, lifted_by, piece_site, reach_at, reach_few}
use Rattle.cut_certificate.proofs.LiftLemmas.{next_lifted}
use Rattle.cut_certificate.proofs.lifting.lift.Goals as goal

pub reaches-requires : goal.reaches-requires
reaches-requires c =
    can_reach (graph_of c.args.p.now) c.args.rows.now c.args.moats.now c.as_slice-moats.result.now c.len.result c.args.p.now.kept
    c.requires.moats
    c.as_slice-moats.ensures c.len.ensures

pub add_cuts-requires : goal.add_cuts-requires
add_cuts-requires c =
    reach_few (graph_of c.args.p.now) c.args.rows.now c.as_slice-moats.result.now c.index-moats-index.result c.as_slice.result.now
    c.args.p.now.kept
    (reach_at (graph_of c.args.p.now) c.args.rows.now c.as_slice-moats.result.now c.len.result c.loop-index.index c.index-moats-index.result
    c.in_ok-reaches.reaches.items c.index.result.now c.as_slice.result.now c.len.ensures c.in_ok-reaches.ensures c.loop-index-test.true
    c.index-moats-index.is
    c.index.ensures c.as_slice.ensures.value)

pub loop-index-preserved : goal.loop-index-preserved
loop-index-preserved c =
    next_lifted (piece_site (graph_of c.args.p.now) c.args.rows.now c.as_slice-moats.result.now) c.loop-index.index
    c.index-moats-index.result c.loop-index.cuts
    c.add_cuts.new.cuts c.loop-index-test.true c.index-moats-index.is c.loop-index.invariant
    (cuts_of (piece_site (graph_of c.args.p.now) c.args.rows.now c.as_slice-moats.result.now) c.index-moats-index.result
    c.as_slice.result.now
    _ c.loop-index.cuts c.add_cuts.new.cuts
    (reach_at (graph_of c.args.p.now) c.args.rows.now c.as_slice-moats.result.now c.len.result c.loop-index.index c.index-moats-index.result
    c.in_ok-reaches.reaches.items c.index.result.now c.as_slice.result.now c.len.ensures c.in_ok-reaches.ensures c.loop-index-test.true
    c.index-moats-index.is
    c.index.ensures c.as_slice.ensures.value)
    (ap (λ (m : Moat). m.width) (sym c.index-moats-index.is)) c.in_ok-add_cuts.ensures)

pub returns : goal.returns
returns c =
    lifted_by (graph_of c.args.p.now) c.args.rows.now c.args.moats.now c.as_slice-moats.result.now c.loop-index.index c.loop-index.cuts
    c.as_slice-moats.ensures
    c.args.p.now.kept (c.least_costs_are_distances.ensures (graph_of c.args.p.now) c.args.p.now.kept) c.requires.moats
    c.loop-index-test.false
    c.loop-index.invariant
