use Rattle.sample_drawings.proofs.Names.{lines_in_row}
use Rattle.sample_drawings.proofs.RowLemmas.{made_more}
use Rattle.sample_drawings.proofs.grid_lines.push_rows.Goals as goal

pub loop-j-preserved : goal.loop-j-preserved
loop-j-preserved c =
    made_more (lines_in_row c.args.grid.now.number c.args.course) c.loop-j.j c.args.lines.now
    c.loop-j.lines _ c.loop-j.invariant c.in_ok-push_row.ensures
