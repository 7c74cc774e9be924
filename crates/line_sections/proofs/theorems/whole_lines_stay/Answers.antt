use Rattle.line_sections.proofs.WholeLemmas.{whole_same}
use Rattle.line_sections.proofs.theorems.whole_lines_stay.Goals as goal

pub returns : goal.returns
returns c = whole_same
