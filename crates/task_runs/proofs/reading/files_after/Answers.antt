use Rattle.std.proofs.Common.{refl}
use Rattle.task_runs.specs.TaskReading.{packed_file_in}
use Rattle.task_runs.specs.TaskValues.{file_value}
use Rattle.task_runs.proofs.ReadingLemmas.{item_kept, item_refused, read_refused}
use Rattle.task_runs.proofs.reading.files_after.Goals as goal

pub returns-in_err-file : goal.returns-in_err-file
returns-in_err-file c = read_refused _ _ c.from_residual.result c.in_err-file.field-0.0
    (item_refused file_value packed_file_in _ c.loop-left.files c.loop-left.left c.loop-left.rest.now _ c.loop-left.invariant
    c.loop-left-test.true c.in_err-file.ensures.err) c.from_residual.ensures.1

pub loop-left-preserved : goal.loop-left-preserved
loop-left-preserved c = item_kept file_value packed_file_in _ c.loop-left.files c.push.new.self c.in_ok-file.file c.loop-left.left
    c.loop-left.rest.now c.in_ok-file.after.now (file_value c.in_ok-file.file) c.loop-left.invariant c.in_ok-push.ensures.ok refl
    c.loop-left-test.true c.in_ok-file.ensures.ok
