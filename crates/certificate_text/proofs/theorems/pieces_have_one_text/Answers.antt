use Rattle.certificate_text.proofs.UniqueTexts.{one_text}
use Rattle.certificate_text.proofs.theorems.pieces_have_one_text.Goals as goal

pub returns : goal.returns
returns c = one_text
