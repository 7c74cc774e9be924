use Rattle.std.proofs.Common.{arith, refl}
use Rattle.odd_cuts.proofs.Names.{MAX_LINES}
use Rattle.odd_cuts.proofs.PlaceLemmas.{places_blank, places_next}
use Rattle.odd_cuts.proofs.TableLemmas.{below_at, length_set}
use Rattle.odd_cuts.proofs.line_indexes.edge_indexes.Goals as goal

pub loop-at-init : goal.loop-at-init
loop-at-init c = record {
  sized = refl;
  rising = rw c.as_slice-lines.ensures c.args.p.now.kept.rising;
  places = rw c.as_slice-lines.ensures
      (places_blank c.args.p.now.lines c.args.p.now.edges (omega (arith, c.args.p.now.kept.few, c.args.p.now.kept.beside)));
}

pub bounds-places-lines : goal.bounds-places-lines
bounds-places-lines c =
    below_at MAX_LINES c.as_slice-lines.result.now c.loop-at.at 0
    (rw c.as_slice-lines.ensures c.args.p.now.kept.lines_below) c.loop-at-test.true

pub loop-at-preserved : goal.loop-at-preserved
loop-at-preserved c =
    let below = below_at MAX_LINES c.as_slice-lines.result.now c.loop-at.at 0 (rw c.as_slice-lines.ensures c.args.p.now.kept.lines_below)
    c.loop-at-test.true in
    let next = places_next c.as_slice-lines.result.now c.args.p.now.edges c.loop-at.places c.loop-at.at c.loop-at-test.true
    (rw c.as_slice-lines.ensures c.args.p.now.kept.beside) (omega (arith, below, c.loop-at.invariant.sized))
    c.loop-at.invariant.rising c.loop-at.invariant.places in
    record { sized = length_set c.loop-at.places _ _ _ c.loop-at.invariant.sized; rising = next.0; places = next.1 }
