use Rattle.std.proofs.Common.{refl}
use Rattle.task_runs.proofs.running.store_has_the_files.Goals as goal

pub returns : goal.returns
returns c files name = refl
