use Rattle.meeting_rounds.proofs.NearLemmas.{lines_near}
use Rattle.meeting_rounds.proofs.NearPointLemmas.{points_near}
use Rattle.meeting_rounds.proofs.theorems.rounds_keep_lines_near.Goals as goal

pub returns-clause-near : goal.returns-clause-near
returns-clause-near c = lines_near

pub returns-clause-points : goal.returns-clause-points
returns-clause-points c = points_near
