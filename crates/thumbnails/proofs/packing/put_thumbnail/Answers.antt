use Rattle.std.proofs.Common.{◌≡◌, ℕ, ◌-◌, ◌++◌, append-nil, arith, ap, sym, ◌∙◌}
use Rattle.thumbnails.specs.declared.packing.TheConstants.{ROWS}
use Rattle.thumbnails.specs.LitPoints.{points_in_cells}
use Rattle.thumbnails.specs.Packings.{rows_from}
use Rattle.thumbnails.proofs.LitLemmas.{rows_next}
use Rattle.thumbnails.proofs.packing.put_thumbnail.Goals as goal

pub loop-row-preserved : goal.loop-row-preserved
loop-row-preserved c = record {
  most = omega (arith, c.loop-row-test.true);
  rows = rows_next (points_in_cells c.args.points.now) _ _ _ ROWS _ c.loop-row-test.true c.in_ok-put_row.ensures
      c.loop-row.invariant.rows;
}

pub returns : goal.returns
returns c =
    let none : ROWS - c.loop-row.row ≡ 0 = omega (arith, c.loop-row-test.false) in
    sym (append-nil c.loop-row.out)
    ∙ sym (ap (λ (n : ℕ). c.loop-row.out ++ rows_from (points_in_cells c.args.points.now) c.loop-row.row n) none)
    ∙ c.loop-row.invariant.rows
