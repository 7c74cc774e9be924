use Rattle.std.proofs.Common.{IsSome, Option, List, ℕ, subst, sym}
use Rattle.outside_io.specs.Files.{FileExists}
use Rattle.outside_io.specs.MemStores.{files_of, visible_files}
use Rattle.task_runs.proofs.RoomListLemmas.{lists_appended}
use Rattle.task_runs.proofs.WriteLemmas.{there_now}
use Rattle.task_runs.proofs.growing_store.GrowingStore.append_written.Goals as goal

pub invariant_of-self : goal.invariant_of-self
invariant_of-self c =
    let there : FileExists (visible_files c.self.inside.written) c.args.name.now =
    there_now (files_of c.self.inside.written) c.args.name.now (subst (λ (f : Option (List ℕ)). IsSome f)
    (sym (rw (← c.self.view_is) at (c.make_room.ensures.written c.args.name.now))) c.requires.there) in (
      lists_appended _ c.self.inside.written c.append.new.self c.args.name.now c.args.bytes.now c.append.result
          c.append.ensures.exact there c.self.invariant.0,
      c.self.invariant.1,
    )
