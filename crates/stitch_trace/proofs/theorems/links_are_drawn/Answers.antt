use Rattle.stitch_trace.proofs.DrawnLemmas.{links_drawn}
use Rattle.stitch_trace.proofs.StepLemmas.{links_steps}
use Rattle.stitch_trace.proofs.theorems.links_are_drawn.Goals as goal

pub returns-clause-drawn : goal.returns-clause-drawn
returns-clause-drawn c = links_drawn c.sections_keep_segments.ensures.segments

pub returns-clause-steps : goal.returns-clause-steps
returns-clause-steps c = links_steps c.sections_keep_segments.ensures.segments
