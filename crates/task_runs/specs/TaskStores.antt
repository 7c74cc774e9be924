-- Stores of runs: the files that were given are lent, and what is written is kept beside them. A
-- name has what was written last, or else what was given.
use Rattle.std.specs.Prelude.{◌≡◌, ℕ, List, Option, Some, None}
use Rattle.outside_io.specs.Blames.{FaultLogValue, no_faults}
use Rattle.outside_io.specs.Files.{Files}
use Rattle.outside_io.specs.MemStores.{MemStoreValue, empty_store, files_of}
use Rattle.outside_io.specs.Views.{StoreView}
use Rattle.task_runs.specs.FileLists.{content_in}
use Rattle.task_runs.specs.Packing.{FileValue}

-- A store: the files given, those written, and the calls that failed.
pub record TaskStoreValue : Type 0 where
  pub given : List FileValue
  pub written : MemStoreValue
  pub log : FaultLogValue

-- The store of these files, before anything is written.
abbrev pub store_of : List FileValue → TaskStoreValue
store_of files = record { given = files; written = empty_store; log = no_faults }

-- What was written, or else what was given.
abbrev pub written_or : (written given : Option (List ℕ)) → Option (List ℕ)
written_or (Some content) given = Some content
written_or None given = given

-- The files of a store.
abbrev pub files_now : TaskStoreValue → Files
files_now store name = written_or (files_of store.written name) (content_in store.given name)

-- The view of a store: its files, all of which are visible, its fault count and its blamed call.
abbrev pub task_store_view : TaskStoreValue → StoreView
task_store_view store = record {
  files = Some (files_now store);
  faults = store.log.count;
  blame = store.log.last;
}

-- The store of some files has them, and no other.
abbrev pub StoreHasTheFiles : Type 0
StoreHasTheFiles = (files : List FileValue) (name : List ℕ)
    → files_now (store_of files) name ≡ content_in files name

-- No file changes, and no call failed.
pub record KeepsFiles (old new : TaskStoreValue) : Type 0 where
  pub log : new.log ≡ old.log
  pub files : (other : List ℕ) → files_now new other ≡ files_now old other
