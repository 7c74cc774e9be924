-- The views of a run: the store and the two streams, before and after it.
use Rattle.std.specs.Prelude.{◌≡◌}
use Rattle.outside_io.specs.Counts.{IsFaultless}
use Rattle.outside_io.specs.Views.{SinkView, StoreView}

-- The views of the store, the standard output and the standard error.
pub record Views : Type 0 where
  pub store : StoreView
  pub out : SinkView
  pub err : SinkView

-- The views of the three, as one record.
abbrev pub views_of : StoreView → SinkView → SinkView → Views
views_of store out err = record { store = store; out = out; err = err }

-- Files and standard output are unchanged, and no call to them failed.
pub record IsUntouched (before after : Views) : Type 0 where
  pub store : after.store ≡ before.store
  pub out : after.out ≡ before.out

-- A run in which no fault is counted.
pub record IsFaultlessRun (before after : Views) : Type 0 where
  pub store : IsFaultless before.store.faults after.store.faults
  pub out : IsFaultless before.out.faults after.out.faults
  pub err : IsFaultless before.err.faults after.err.faults
