use Rattle.drawing_edits.proofs.ExtentLemmas.{extent_within}
use Rattle.drawing_edits.proofs.drawing_extent.extent.Goals as goal

pub returns-clause-within : goal.returns-clause-within
returns-clause-within c =
    extent_within c.args.d.now.lines _ c.keeps_limits.ensures.limits.lines (rw c.lines.ensures at c.lines_extent.ensures)
