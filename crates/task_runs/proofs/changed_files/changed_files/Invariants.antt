use Rattle.std.proofs.Common.{◌≡◌, ◌++◌, drop, map, string_bytes}
use Rattle.task_runs.specs.TaskValues.{file_value}
use Rattle.task_runs.specs.Replies.{changed_files}
use Rattle.task_runs.specs.TaskStores.{files_now}
use Rattle.task_runs.proofs.changed_files.changed_files.Given as goal

-- the files so far, and the names that are left
abbrev pub invariant-loop-name : goal.invariant-loop-name
invariant-loop-name l = map file_value l.files
    ++ changed_files (map file_value l.given) (files_now l.store) (map string_bytes (drop l.name-index l.names))
    ≡ changed_files (map file_value l.given) (files_now l.store) (map string_bytes l.names)
