use Rattle.line_graph.proofs.GrowingLimitLemmas.{joined_valid}
use Rattle.line_graph.proofs.growing_theorems.joined_drawings_are_valid.Goals as goal

pub returns : goal.returns
returns c =
    joined_valid c.sections_keep_segments.ensures.segments c.sections_keep_segments.ensures.each c.whole_lines_stay.ensures
    c.sections_are_whole.ensures
