use Rattle.certificate_text.proofs.ReadTexts.{text_says}
use Rattle.certificate_text.proofs.theorems.text_of_pieces_is_read.Goals as goal

pub returns : goal.returns
returns c = text_says
