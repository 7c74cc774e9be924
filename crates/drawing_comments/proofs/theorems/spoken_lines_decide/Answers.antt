use Rattle.drawing_comments.proofs.SpokenLemmas.{spoken_lines_decide}
use Rattle.drawing_comments.proofs.theorems.spoken_lines_decide.Goals as goal

pub returns : goal.returns
returns c = spoken_lines_decide
