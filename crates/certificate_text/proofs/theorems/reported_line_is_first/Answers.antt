use Rattle.certificate_text.proofs.FirstBadLines.{told_is_first}
use Rattle.certificate_text.proofs.theorems.reported_line_is_first.Goals as goal

pub returns : goal.returns
returns c = told_is_first
