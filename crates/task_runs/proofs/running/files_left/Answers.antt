use Rattle.std.proofs.Common.{map, refl, string_bytes, sym}
use Rattle.task_runs.proofs.ChangeLemmas.{none_changed}
use Rattle.task_runs.specs.TaskStores.{files_now}
use Rattle.task_runs.specs.TaskValues.{file_value}
use Rattle.task_runs.proofs.running.files_left.Goals as goal

pub returns-then-left_alone : goal.returns-then-left_alone
returns-then-left_alone c =
    let names = map string_bytes c.names-names.result.now in (
      names,
      c.names-names.ensures,
      rw (c.new.ensures) (sym (none_changed (map file_value c.args.task.now.files) (files_now c.args.store.now) names
          (c.requires c.if-left_alone.true))),
    )
