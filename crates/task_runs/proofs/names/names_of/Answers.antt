use Rattle.std.proofs.Common.{map}
use Rattle.std.proofs.lemmas.List.{at_drop_more}
use Rattle.task_runs.specs.TaskValues.{file_value}
use Rattle.task_runs.proofs.GivenLemmas.{lists_next}
use Rattle.task_runs.proofs.names.names_of.Goals as goal

pub loop-file-preserved : goal.loop-file-preserved
loop-file-preserved c = lists_next (map file_value c.args.files.now) _ _ _ _ _ c.loop-file.invariant
    (at_drop_more (λ files. map file_value files) c.args.files.now c.loop-file.file-index _ c.loop-file-test.true)
    c.in_ok-add_name.ensures.ok
