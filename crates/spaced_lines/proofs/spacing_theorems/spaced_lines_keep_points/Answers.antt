use Rattle.spaced_lines.proofs.SharedLemmas.{shared_are_junctions}
use Rattle.spaced_lines.proofs.SpacingLemmas.{ends_stay, tested_stay}
use Rattle.spaced_lines.proofs.spacing_theorems.spaced_lines_keep_points.Goals as goal

pub returns : goal.returns
returns c = record { tested = tested_stay; ends = ends_stay; shared = shared_are_junctions }
