use Rattle.stitch_text.proofs.CanonicalText.{reads_as_written}
use Rattle.stitch_text.proofs.theorems.read_texts_are_canonical.Goals as goal

pub returns : goal.returns
returns c = reads_as_written
