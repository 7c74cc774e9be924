-- The call that a fault of a store is blamed on: the kind and the file name of the last failed
-- call.
use Rattle.std.specs.Prelude.{◌≡◌, ℕ, List, Option, Some, None, Result, Ok, Err}
use Rattle.outside_io.specs.declared.blame.CallKind.{CallKind}
use Rattle.outside_io.specs.declared.blame.CallKind.TheVariants.{Read, Write}
use Rattle.outside_io.specs.Counts.{next_count}

-- A call of a store: its kind, and the bytes of the file name that it was given.
pub record Blame : Type 0 where
  pub kind : CallKind
  pub name : List ℕ

-- The call of a kind on a file name.
abbrev pub store_call : CallKind → List ℕ → Blame
store_call kind name = record { kind = kind; name = name }

-- A read of the named file.
abbrev pub read_call : List ℕ → Blame
read_call name = store_call Read name

-- A write to the named file: creating it, or appending bytes to it.
abbrev pub write_call : List ℕ → Blame
write_call name = store_call Write name

-- The call of an optional kind on a file name; none for no kind.
abbrev pub blame_of : Option CallKind → List ℕ → Option Blame
blame_of None name = None
blame_of (Some kind) name = Some (store_call kind name)

-- A fault log: the number of failed calls, and the last of them.
pub record FaultLogValue : Type 0 where
  pub count : ℕ
  pub last : Option Blame

-- The fault log without failed calls.
abbrev pub no_faults : FaultLogValue
no_faults = record { count = 0; last = None }

-- The fault log after one more failed call.
abbrev pub with_failed_call : FaultLogValue → Blame → FaultLogValue
with_failed_call so_far call = record { count = next_count so_far.count; last = Some call }

-- The effect of a call on the fault log: an error adds one entry, a success adds none.
abbrev pub LogsFailedCall : {T E : Type 0} → Blame → FaultLogValue → FaultLogValue → Result T E
    → Type 0
LogsFailedCall call old new (Ok _) = new ≡ old
LogsFailedCall call old new (Err _) = new ≡ with_failed_call old call
