use Rattle.std.proofs.Common.{◌≡◌, drop, map, option_map}
use Rattle.task_runs.specs.TaskValues.{file_value}
use Rattle.task_runs.specs.FileLists.{content_after, content_in}
use Rattle.task_runs.proofs.file_lists.content_in.Given as goal

-- what was found, and the files that are left
abbrev pub invariant-loop-file : goal.invariant-loop-file
invariant-loop-file l = content_after (option_map (λ found. found.now) l.found) (map file_value (drop l.file-index l.files)) l.name
    ≡ content_in (map file_value l.files) l.name
