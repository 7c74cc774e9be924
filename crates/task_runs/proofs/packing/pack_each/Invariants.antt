use Rattle.std.proofs.Common.{◌≡◌, ◌++◌, drop, map}
use Rattle.std.specs.List.{flat_map}
use Rattle.task_runs.specs.Packing.{packed_file}
use Rattle.task_runs.specs.TaskValues.{file_value}
use Rattle.task_runs.proofs.packing.pack_each.Given as goal

-- the bytes so far, and the files that are left
abbrev pub invariant-loop-file : goal.invariant-loop-file
invariant-loop-file l = l.to ++ flat_map packed_file (map file_value (drop l.file-index l.files))
    ≡ l.fn.to ++ flat_map packed_file (map file_value l.files)
