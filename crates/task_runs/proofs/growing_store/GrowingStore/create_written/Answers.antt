use Rattle.task_runs.proofs.RoomListLemmas.{lists_created}
use Rattle.task_runs.proofs.growing_store.GrowingStore.create_written.Goals as goal

pub invariant_of-self : goal.invariant_of-self
invariant_of-self c = (
  lists_created _ c.self.inside.written c.create.new.self c.args.name.now c.create.result c.create.ensures.exact c.self.invariant.0,
  c.self.invariant.1,
)
