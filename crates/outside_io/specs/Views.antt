-- The views of a store and a sink: what contracts see of them at one moment.
use Rattle.std.specs.Prelude.{ℕ, List, Option, None}
use Rattle.outside_io.specs.Blames.{Blame, FaultLogValue}
use Rattle.outside_io.specs.Files.{Files}

-- The view of a store: its files, if visible, its fault count, and its last failed call.
pub record StoreView : Type 0 where
  pub files : Option Files
  pub faults : ℕ
  pub blame : Option Blame

-- The view of a sink: the bytes taken, if visible, and its fault count.
pub record SinkView : Type 0 where
  pub taken : Option (List ℕ)
  pub faults : ℕ

-- The view of a store that hides its files.
abbrev pub hidden_files : FaultLogValue → StoreView
hidden_files so_far = record { files = None; faults = so_far.count; blame = so_far.last }

-- The view of a sink that hides its bytes.
abbrev pub hidden_bytes : ℕ → SinkView
hidden_bytes faults = record { taken = None; faults = faults }
