use Rattle.program_inputs.proofs.reading.read_input.Goals as goal

pub returns-in-Err : goal.returns-in-Err
returns-in-Err g c = c.read_failure.ensures _ _ c.in-Err.ensures.reads c.in-Err.ensures.same
