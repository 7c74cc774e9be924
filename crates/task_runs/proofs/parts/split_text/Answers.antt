use Rattle.task_runs.proofs.ReadingLemmas.{no_text, text_read}
use Rattle.task_runs.proofs.parts.split_text.Goals as goal

pub returns-in-Ok-clause-ok : goal.returns-in-Ok-clause-ok
returns-in-Ok-clause-ok c =
    text_read c.args.bytes.now _ _ _ c.in-Some.ensures.some c.in-Ok.ensures.cases.0 c.in-Ok.ensures.cases.1

pub returns-in-Err-clause-err : goal.returns-in-Err-clause-err
returns-in-Err-clause-err c = no_text c.args.bytes.now _ _ c.in-Some.ensures.some c.in-Err.ensures.cases.0
