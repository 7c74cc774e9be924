use Rattle.odd_cuts.proofs.TableLemmas.{below_at}
use Rattle.odd_cuts.proofs.Names.{MAX_LINES}
use Rattle.odd_cuts.proofs.line_loads.check_loads.Goals as goal

pub check_load-requires : goal.check_load-requires
check_load-requires c =
    below_at MAX_LINES c.as_slice-lines.result.now c.loop-at.at 0
    (rw c.as_slice-lines.ensures c.args.p.now.kept.lines_below) c.loop-at-test.true
