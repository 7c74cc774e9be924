use Rattle.std.proofs.Common.{map, ◌≡◌}
use Rattle.task_runs.specs.TaskReading.{packed_file_in, items_in}
use Rattle.task_runs.specs.TaskValues.{file_value, joined}
use Rattle.task_runs.proofs.reading.files_after.Given as goal

-- the files so far, and what is read of the bytes that are left
abbrev pub invariant-loop-left : goal.invariant-loop-left
invariant-loop-left l = items_in packed_file_in l.count l.bytes ≡ joined (map file_value l.files) (items_in packed_file_in l.left l.rest)

abbrev pub decreases-loop-left : goal.decreases-loop-left
decreases-loop-left l = l.left
