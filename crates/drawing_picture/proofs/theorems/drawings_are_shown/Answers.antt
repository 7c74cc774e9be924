use Rattle.drawing_picture.proofs.LabelLawLemmas.{sides_have, stand_apart}
use Rattle.drawing_picture.proofs.MarkLemmas.{drawn, shown}
use Rattle.drawing_picture.proofs.theorems.drawings_are_shown.Goals as goal

pub returns-clause-segments : goal.returns-clause-segments
returns-clause-segments c = drawn

pub returns-clause-junctions : goal.returns-clause-junctions
returns-clause-junctions c = shown

pub returns-clause-sides : goal.returns-clause-sides
returns-clause-sides c = sides_have

pub returns-clause-rows : goal.returns-clause-rows
returns-clause-rows c = stand_apart
