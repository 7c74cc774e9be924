use Rattle.spaced_lines.proofs.SpacedLimitLemmas.{limits_kept}
use Rattle.spaced_lines.proofs.spaced_answers.spaced_lines_keep_limits.Goals as goal

pub returns : goal.returns
returns c = limits_kept c.spaced_lines_save_steps.ensures.lines c.spaced_lines_save_steps.ensures.steps
