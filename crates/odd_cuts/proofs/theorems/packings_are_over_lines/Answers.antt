use Rattle.odd_cuts.proofs.DrawnCutLemmas.{packings_over_lines}
use Rattle.odd_cuts.proofs.theorems.packings_are_over_lines.Goals as goal

pub returns : goal.returns
returns c = packings_over_lines c.given_points_are_junctions.ensures
