use Rattle.sample_drawings.proofs.Names.{lines_at_cell}
use Rattle.sample_drawings.proofs.RowLemmas.{made_more}
use Rattle.sample_drawings.proofs.grid_lines.push_row.Goals as goal

pub loop-i-preserved : goal.loop-i-preserved
loop-i-preserved c =
    made_more (λ i. lines_at_cell c.args.grid.now.number c.args.course i c.args.j) c.loop-i.i c.args.lines.now
    c.loop-i.lines _ c.loop-i.invariant c.in_ok-push_at.ensures
