use Rattle.std.proofs.Common.{refl}
use Rattle.task_runs.proofs.WriteLemmas.{append_failed}
use Rattle.task_runs.proofs.growing_store.GrowingStoreStore.append.Goals as goal

pub append_kept-requires-clause-there : goal.append_kept-requires-clause-there
append_kept-requires-clause-there c = c.requires.there _ refl

pub returns-in-Err : goal.returns-in-Err
returns-in-Err c = record {
  appends = append_failed c.args.self.now c.append_kept.new.self c.failed.new.self c.args.name.now c.args.bytes.now c.failed.result
      c.append_kept.ensures.log c.append_kept.ensures.others c.failed.ensures.files c.failed.ensures.cause;
}
