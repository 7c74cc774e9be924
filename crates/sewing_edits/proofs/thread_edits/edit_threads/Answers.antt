use Rattle.std.proofs.Common.{true, false}
use Rattle.design_model.proofs.CallerLemmas.{acts_in_range}
use Rattle.sewing_edits.proofs.thread_edits.edit_threads.Goals as goal

pub put_threads-requires-clause-acts : goal.put_threads-requires-clause-acts
put_threads-requires-clause-acts c =
    rw (c.as_slice.ensures, c.in_ok-acts.ensures.value)
    (acts_in_range 1 true false c.args.design.now.commands c.keeps_limits.ensures.in_range)
