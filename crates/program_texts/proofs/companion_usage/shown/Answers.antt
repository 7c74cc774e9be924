use Rattle.std.proofs.Common.{arith}
use Rattle.program_texts.proofs.BoundaryLemmas.{shown_of_long}
use Rattle.program_texts.proofs.companion_usage.shown.Goals as goal

pub returns-clause-value : goal.returns-clause-value
returns-clause-value c =
    let end = c.floor_char_boundary-end in
    rw c.as_bytes-2.ensures.value
    (shown_of_long c.args.word.now end.result (omega arith) end.ensures.bound end.ensures.boundary end.ensures.nearest)
