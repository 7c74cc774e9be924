use Rattle.spaced_lines.proofs.spaced_drawing.spaced_drawing.Goals as goal

pub returns-clause-answer : goal.returns-clause-answer
returns-clause-answer c = rw
    (c.as_slice.ensures.value, c.in_ok-lines.ensures, c.lines.ensures, c.rule.ensures, c.step_of.ensures, c.step.ensures.value)
    at c.draw_lines.ensures.answer
