use Rattle.std.proofs.Common.{drop, map, string_bytes}
use Rattle.task_runs.specs.TaskValues.{file_value}
use Rattle.task_runs.proofs.GivenLemmas.{ListsBefore}
use Rattle.task_runs.proofs.names.names_of.Given as goal

-- the names so far, and the files that are left
abbrev pub invariant-loop-file : goal.invariant-loop-file
invariant-loop-file l = ListsBefore (map file_value l.files) (map string_bytes l.names) (map file_value (drop l.file-index l.files))
