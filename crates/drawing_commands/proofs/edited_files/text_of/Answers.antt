use Rattle.drawing_commands.proofs.edited_files.text_of.Goals as goal

pub returns-clause-value : goal.returns-clause-value
returns-clause-value c = c.in_ok-text.ensures.value

pub returns-clause-again : goal.returns-clause-again
returns-clause-again c = rw c.in_ok-text.ensures.value at c.in_ok-text.ensures.again
