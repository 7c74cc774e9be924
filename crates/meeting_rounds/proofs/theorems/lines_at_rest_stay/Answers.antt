use Rattle.meeting_rounds.proofs.StayLemmas.{lines_drawn, lines_stay}
use Rattle.meeting_rounds.proofs.theorems.lines_at_rest_stay.Goals as goal

pub returns-clause-drawn : goal.returns-clause-drawn
returns-clause-drawn c = lines_drawn

pub returns-clause-stay : goal.returns-clause-stay
returns-clause-stay c = lines_stay
