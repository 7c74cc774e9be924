use Rattle.std.proofs.Common.{refl}
use Rattle.task_runs.specs.TaskValues.{task_value}
use Rattle.task_runs.proofs.OutcomeLemmas.{packed_with, run_reply, same_start}
use Rattle.task_runs.proofs.running.run_read.Goals as goal

pub returns : goal.returns
returns g c =
    let task = task_value c.args.task.now in
    let begins = same_start g.P.TaskProgram.ends _ task.words task.files c.in_ok-store.store _ _ _ _ (rw (c.as_slice-2.ensures) refl)
    (rw (c.as_slice.ensures) at c.in_ok-store.ensures) c.new-out.ensures c.new-err.ensures c.in_ok-status.ensures in (
      _,
      run_reply g.P.TaskProgram.ends task c.in_ok-status.status c.run.new.store c.in_ok-files.ensures.0 c.run.new.out c.run.new.err
          c.in_ok-files.ensures.1 begins,
      packed_with _ _ _ _ _ _ c.in_ok-reply.ensures (rw (c.as_slice-4.ensures) c.in_ok-files.ensures.2),
    )
