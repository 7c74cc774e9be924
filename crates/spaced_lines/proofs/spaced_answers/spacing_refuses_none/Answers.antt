use Rattle.spaced_lines.proofs.SpacedAnswerLemmas.{none_refused}
use Rattle.spaced_lines.proofs.spaced_answers.spacing_refuses_none.Goals as goal

pub returns : goal.returns
returns c =
    none_refused c.lines_within_limits_are_drawn.ensures c.spaced_lines_keep_limits.ensures c.spaced_sections_keep_ends.ensures.ends
