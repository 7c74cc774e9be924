use Rattle.std.proofs.Common.{map, string_bytes, ◌≡◌}
use Rattle.task_runs.specs.TaskReading.{items_in, text_in}
use Rattle.task_runs.specs.TaskValues.{joined}
use Rattle.task_runs.proofs.reading.words_after.Given as goal

-- the words so far, and what is read of the bytes that are left
abbrev pub invariant-loop-left : goal.invariant-loop-left
invariant-loop-left l = items_in text_in l.count l.bytes ≡ joined (map string_bytes l.words) (items_in text_in l.left l.rest)

abbrev pub decreases-loop-left : goal.decreases-loop-left
decreases-loop-left l = l.left
