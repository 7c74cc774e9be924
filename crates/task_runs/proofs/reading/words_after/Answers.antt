use Rattle.std.proofs.Common.{string_bytes}
use Rattle.task_runs.specs.TaskReading.{text_in}
use Rattle.task_runs.proofs.ReadingLemmas.{item_kept}
use Rattle.task_runs.proofs.reading.words_after.Goals as goal

pub loop-left-preserved : goal.loop-left-preserved
loop-left-preserved c = item_kept string_bytes text_in _ c.loop-left.words c.push.new.self c.in-Ok.word c.loop-left.left
    c.loop-left.rest.now c.in_ok-text.after.now c.in_ok-text.text.now c.loop-left.invariant c.in_ok-push.ensures.ok c.in-Ok.ensures.ok
    c.loop-left-test.true c.in_ok-text.ensures.ok
