use Rattle.task_runs.proofs.ChangeLemmas.{each_change}
use Rattle.task_runs.proofs.running.each_change_is_listed.Goals as goal

pub returns : goal.returns
returns c = each_change
