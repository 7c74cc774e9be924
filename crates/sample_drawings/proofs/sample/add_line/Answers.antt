use Rattle.std.proofs.Common.{◌++◌, ◌∙◌, ap}
use Rattle.sample_drawings.proofs.SampleRoomLemmas.{line_taken, memory_wanted}
use Rattle.sample_drawings.proofs.sample.add_line.Goals as goal

pub memory_fault-requires : goal.memory_fault-requires
memory_fault-requires c =
    let are = c.in_ok-append.ensures.ok ∙ (ap (λ points. points ++ c.as_slice.result.now) c.new-points.ensures ∙ c.as_slice.ensures) in
    memory_wanted _ _ c.in-Err.fault (line_taken c.args.maker.now c.args.line _ are c.requires.room c.requires.short)
    c.in-Err.ensures.answer.0
