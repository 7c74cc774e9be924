use Rattle.drawing_text.specs.DrawingText.{drawing_of}
use Rattle.program_inputs.proofs.FaultLemmas.{refused}
use Rattle.program_inputs.proofs.drawing_files.drawing_in.Goals as goal

pub returns : goal.returns
returns g c = refused drawing_of _ _ _ _ _ _ c.in_ok-bytes.ensures (rw c.as_slice.ensures at c.in-Err.ensures)
    c.drawing_failure.ensures
