use Rattle.certificate_text.proofs.UniqueTexts.{said_spelled}
use Rattle.certificate_text.proofs.theorems.read_pieces_can_be_printed.Goals as goal

pub returns : goal.returns
returns c = said_spelled
