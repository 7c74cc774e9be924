-- What a call leaves of the files of a store.
use Rattle.std.proofs.Common.{sym, subst, ◌≡◌, ◌≤◌, ℕ, List, Option, Some, IsSome, Err}
use Rattle.outside_io.specs.Blames.{FaultLogValue, write_call}
use Rattle.outside_io.specs.Causes.{AppendsBytes, CallFailed, WritesFile}
use Rattle.outside_io.specs.Counts.{Rose}
use Rattle.outside_io.specs.Files.{ChangesOnlyFile, FileExists, Files}
use Rattle.outside_io.specs.declared.store.Failed.{Failed}
use Rattle.task_runs.specs.TaskStores.{TaskStoreValue, task_store_view}

same_files : (f g : Files) → Some f ≡ Some g → f ≡ g
same_files f g is = cc

-- a file that is visible exists
pub there_now : (files : Files) (name : List ℕ) → IsSome (files name) → FileExists (Some files) name
there_now files name there visible is = subst (λ (f : Files). IsSome (f name)) (same_files files visible is) there

-- a call that failed after no fault was noted
call_failed : (old mid new : TaskStoreValue) (name : List ℕ) → mid.log ≡ old.log
    → CallFailed (task_store_view mid) (task_store_view new) (write_call name)
    → CallFailed (task_store_view old) (task_store_view new) (write_call name)
call_failed old mid new name log failed = record {
  rose = subst (λ (l : FaultLogValue). Rose l.count new.log.count) log failed.rose;
  kept = subst (λ (l : FaultLogValue). l.count ≤ new.log.count) log failed.kept;
  blame = failed.blame;
}

others_failed : (old mid new : TaskStoreValue) (name : List ℕ)
    → ChangesOnlyFile (task_store_view old).files (task_store_view mid).files name
    → (task_store_view new).files ≡ (task_store_view mid).files
    → ChangesOnlyFile (task_store_view old).files (task_store_view new).files name
others_failed old mid new name others same =
    subst (λ (f : Option Files). ChangesOnlyFile (task_store_view old).files f name) (sym same) others

-- a file that couldn't be created, and bytes that couldn't be appended
pub create_failed : {T : Type 0} (old mid new : TaskStoreValue) (name content : List ℕ) (why : Failed) → mid.log ≡ old.log
    → ChangesOnlyFile (task_store_view old).files (task_store_view mid).files name
    → (task_store_view new).files ≡ (task_store_view mid).files
    → CallFailed (task_store_view mid) (task_store_view new) (write_call name)
    → WritesFile {T = T} name content (task_store_view old) (task_store_view new) (Err why)
create_failed old mid new name content why log others same failed = record {
  holds = tt;
  others = others_failed old mid new name others same;
  cause = call_failed old mid new name log failed;
}

pub append_failed : {T : Type 0} (old mid new : TaskStoreValue) (name bytes : List ℕ) (why : Failed) → mid.log ≡ old.log
    → ChangesOnlyFile (task_store_view old).files (task_store_view mid).files name
    → (task_store_view new).files ≡ (task_store_view mid).files
    → CallFailed (task_store_view mid) (task_store_view new) (write_call name)
    → AppendsBytes {T = T} name bytes (task_store_view old) (task_store_view new) (Err why)
append_failed old mid new name bytes why log others same failed = record {
  added = tt;
  others = others_failed old mid new name others same;
  cause = call_failed old mid new name log failed;
}
