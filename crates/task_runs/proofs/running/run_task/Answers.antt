use Rattle.task_runs.proofs.OutcomeLemmas.{ran_outcome, refused_outcome}
use Rattle.task_runs.proofs.running.run_task.Goals as goal

pub returns-in-Ok : goal.returns-in-Ok
returns-in-Ok g c = ran_outcome g.P.TaskProgram.ends c.args.request.now _ c.args.reply.now _ _ c.in-Ok.ensures.ok.0 c.in-Ok.ensures.ok.1
    c.in-Ok.ensures.ok.2 c.in-Ok.ensures.ok.3 (rw (c.as_slice.ensures) c.in-Ok.ensures.ok.4) c.deliver.ensures

pub returns-in-Err : goal.returns-in-Err
returns-in-Err g c = refused_outcome g.P.TaskProgram.ends c.args.request.now _ c.args.reply.now _ _ c.in-Err.why c.in-Err.ensures.err
    c.fault_reply.ensures c.deliver-in-Err.ensures
