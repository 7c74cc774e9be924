use Rattle.drawing_text.proofs.TextLawLemmas.{spelling_read}
use Rattle.drawing_text.proofs.theorems.canonical_text_is_read.Goals as goal

pub returns : goal.returns
returns c = spelling_read
