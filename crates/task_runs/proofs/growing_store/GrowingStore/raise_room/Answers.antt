use Rattle.task_runs.proofs.GivenLemmas.{lists_with_name}
use Rattle.task_runs.proofs.RoomListLemmas.{lists_raised}
use Rattle.task_runs.proofs.growing_store.GrowingStore.raise_room.Goals as goal

pub invariant_of-self-2 : goal.invariant_of-self-2
invariant_of-self-2 c = (
  lists_raised _ _ c.self.inside.written c.prepare.new.self c.args.name.now c.args.room c.in_ok-add_name.ensures.ok
      c.in_ok-prepare.ensures.ok c.self.invariant.0,
  lists_with_name _ _ c.args.name.now _ c.in_ok-add_name.ensures.ok c.self.invariant.1,
)
