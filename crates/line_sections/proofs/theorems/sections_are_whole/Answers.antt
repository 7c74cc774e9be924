use Rattle.line_sections.proofs.WholeLemmas.{sections_whole}
use Rattle.line_sections.proofs.theorems.sections_are_whole.Goals as goal

pub returns : goal.returns
returns c = sections_whole
