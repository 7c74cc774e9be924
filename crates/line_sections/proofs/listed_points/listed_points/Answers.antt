use Rattle.line_sections.proofs.CutLemmas.{none_left}
use Rattle.line_sections.proofs.listed_points.listed_points.Goals as goal

pub returns : goal.returns
returns c = none_left c.args.lines.now c.loop-rest.rest.now _ c.loop-rest.invariant c.in_default.len_below
