use Rattle.drawing_edits.proofs.drawing_edit.edit_drawing.Goals as goal

pub returns-in-Centre-clause-answer : goal.returns-in-Centre-clause-answer
returns-in-Centre-clause-answer c = rw c.in-Centre.is (rw c.centring.ensures.value at c.move_drawing-in-Centre.ensures.answer)
