use Rattle.task_runs.proofs.GivenLemmas.{lists_with_name}
use Rattle.task_runs.proofs.RoomListLemmas.{lists_set}
use Rattle.task_runs.proofs.growing_store.GrowingStore.keep_given.Goals as goal

pub invariant_of-self-2 : goal.invariant_of-self-2
invariant_of-self-2 c = (
  lists_set _ _ c.self.inside.written c.put_file.new.self c.args.name.now c.in-Some.content.now c.in_ok-add_name.ensures.ok
      c.in_ok-put_file.ensures.ok c.self.invariant.0,
  lists_with_name _ _ c.args.name.now _ c.in_ok-add_name.ensures.ok c.self.invariant.1,
)
