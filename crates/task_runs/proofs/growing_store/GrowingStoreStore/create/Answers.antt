use Rattle.task_runs.proofs.WriteLemmas.{create_failed}
use Rattle.task_runs.proofs.growing_store.GrowingStoreStore.create.Goals as goal

pub returns-in-Err : goal.returns-in-Err
returns-in-Err c = record {
  writes = create_failed c.args.self.now c.create_written.new.self c.failed.new.self c.args.name.now _ c.failed.result
      c.create_written.ensures.log c.create_written.ensures.others c.failed.ensures.files c.failed.ensures.cause;
}
