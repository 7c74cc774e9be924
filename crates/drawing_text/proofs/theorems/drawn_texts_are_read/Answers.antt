use Rattle.drawing_text.proofs.TextLawLemmas.{drawn_kept, drawn_read, lines2_kept, lines3_kept, spelling2_read, spelling3_read}
use Rattle.drawing_text.proofs.theorems.drawn_texts_are_read.Goals as goal

pub returns-clause-read2 : goal.returns-clause-read2
returns-clause-read2 c = spelling2_read

pub returns-clause-read3 : goal.returns-clause-read3
returns-clause-read3 c = spelling3_read

pub returns-clause-lines2 : goal.returns-clause-lines2
returns-clause-lines2 c = lines2_kept

pub returns-clause-lines3 : goal.returns-clause-lines3
returns-clause-lines3 c = lines3_kept

pub returns-clause-read : goal.returns-clause-read
returns-clause-read c = drawn_read

pub returns-clause-lines : goal.returns-clause-lines
returns-clause-lines c = drawn_kept
