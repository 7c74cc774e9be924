use Rattle.spaced_lines.proofs.KeptSectionLemmas.{sections_keep_ends}
use Rattle.spaced_lines.proofs.PieceLemmas.{pieces_stay}
use Rattle.spaced_lines.proofs.spacing_theorems.spaced_sections_keep_ends.Goals as goal

pub returns : goal.returns
returns c = record { ends = sections_keep_ends; pieces = pieces_stay }
