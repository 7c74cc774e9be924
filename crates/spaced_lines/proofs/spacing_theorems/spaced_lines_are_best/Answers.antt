use Rattle.spaced_lines.proofs.BestLemmas.{kept_are_best}
use Rattle.spaced_lines.proofs.ReversedLemmas.{reversed_as_good}
use Rattle.spaced_lines.proofs.spacing_theorems.spaced_lines_are_best.Goals as goal

pub returns : goal.returns
returns c = record { best = kept_are_best; reversed = reversed_as_good }
