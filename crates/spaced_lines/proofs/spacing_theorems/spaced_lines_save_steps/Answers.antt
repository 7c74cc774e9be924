use Rattle.spaced_lines.proofs.SavedLemmas.{each_saves, lines_stay_lines}
use Rattle.spaced_lines.proofs.spacing_theorems.spaced_lines_save_steps.Goals as goal

pub returns : goal.returns
returns c = record { lines = lines_stay_lines; steps = each_saves c.split_points_lead.ensures }
