use Rattle.drawing_text.specs.DrawingText.{drawing_as2}
use Rattle.program_inputs.proofs.FaultLemmas.{refused}
use Rattle.program_inputs.proofs.drawing_files.drawing_as2_in.Goals as goal

pub returns-clause-takes : goal.returns-clause-takes
returns-clause-takes g c = refused drawing_as2 _ _ _ _ _ _ c.in_ok-bytes.ensures
    (rw c.as_slice.ensures at c.in-Err.ensures.answer) c.drawing_failure.ensures
