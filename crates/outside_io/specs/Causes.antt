-- The results of calls to a store or a sink, each with its cause. Each cause is exact by exclusion:
-- if no fault is counted, only the results without a fault remain.
use Rattle.std.specs.Prelude.{◌≡◌, ℕ, ◌<◌, ◌≤◌, Bool, true, false, List, ◌++◌, length, take, drop, Option, Some, None, Result, Ok, Err, IfOk, OnOk, if◌then◌else◌, nat_le}
use Rattle.outside_io.specs.declared.store.Failed.{Failed}
use Rattle.outside_io.specs.declared.store.ReadStop.{ReadStop}
use Rattle.outside_io.specs.declared.store.ReadStop.TheVariants as stop
use Rattle.outside_io.specs.declared.whole_files.GetFault.{GetFault}
use Rattle.outside_io.specs.declared.whole_files.GetFault.TheVariants as fault
use Rattle.outside_io.specs.Blames.{Blame, read_call, write_call}
use Rattle.outside_io.specs.Counts.{Rose}
use Rattle.outside_io.specs.Files.{AppendsToFile, ChangesOnlyFile, Files, WhereVisible, FileHolds, LacksFile}
use Rattle.outside_io.specs.Views.{SinkView, StoreView}

-- No new fault: the fault count and the blamed call are unchanged.
pub record HasNoNewFault (old new : StoreView) : Type 0 where
  pub count : new.faults ≡ old.faults
  pub blame : new.blame ≡ old.blame

-- A failed call: the fault count rose, and the blamed call is this one.
pub record CallFailed (old new : StoreView) (call : Blame) : Type 0 where
  pub rose : Rose old.faults new.faults
  pub kept : old.faults ≤ new.faults
  pub blame : new.blame ≡ Some call

-- The effect of a read on the fault count and the blamed call.
abbrev pub ReadCause : {T : Type 0} → List ℕ → StoreView → StoreView → Result T ReadStop → Type 0
ReadCause name old new (Ok _) = HasNoNewFault old new
ReadCause name old new (Err stop.Missing) = HasNoNewFault old new
ReadCause name old new (Err stop.Failed) = CallFailed old new (read_call name)

-- The effect of a write on the fault count and the blamed call.
abbrev pub WriteCause : {T : Type 0} → List ℕ → StoreView → StoreView → Result T Failed → Type 0
WriteCause name old new (Ok _) = HasNoNewFault old new
WriteCause name old new (Err _) = CallFailed old new (write_call name)

-- The first `count` bytes of a buffer are the bytes of a content from an offset on. The count is 0
-- only at or past the end of the content, or for an empty buffer.
pub record BufferMatches (content : List ℕ) (offset : ℕ) (buffer : List ℕ) (count : ℕ) : Type 0
  where
    pub bytes : take count buffer ≡ take count (drop offset content)
    pub left : count ≤ length (drop offset content)
    pub some : offset < length content → 0 < length buffer → 0 < count

-- A content exists, and the first `count` bytes of the buffer are its bytes from the offset on.
abbrev pub BufferMatchesFile : Option (List ℕ) → ℕ → List ℕ → ℕ → Type 0
BufferMatchesFile None offset buffer count = ⊥
BufferMatchesFile (Some content) offset buffer count = BufferMatches content offset buffer count

-- The relation between the result of a read and the files.
abbrev pub IsReadResult : Option Files → List ℕ → ℕ → List ℕ → Result ℕ ReadStop → Type 0
IsReadResult files name offset buffer (Ok count) =
    WhereVisible files (λ visible. BufferMatchesFile (visible name) offset buffer count)
IsReadResult files name offset buffer (Err stop.Missing) = LacksFile files name
IsReadResult files name offset buffer (Err stop.Failed) = Unit {0}

-- A read at an offset: all files are unchanged, and the bytes read fit into the buffer.
pub record ReadsAt (name : List ℕ) (offset : ℕ) (old new : StoreView) (buffer : List ℕ)
    (result : Result ℕ ReadStop) : Type 0 where
  pub same : new.files ≡ old.files
  pub bound : IfOk result (λ count. count ≤ length buffer)
  pub gives : IsReadResult old.files name offset buffer result
  pub cause : ReadCause name old new result

-- A write of an entire file: after success it contains these bytes. No other file changes.
pub record WritesFile {T : Type 0} (name content : List ℕ) (old new : StoreView)
    (result : Result T Failed) : Type 0 where
  pub holds : OnOk result (FileHolds new.files name content)
  pub others : ChangesOnlyFile old.files new.files name
  pub cause : WriteCause name old new result

-- A write at the end of a file: after success it ends with these bytes. No other file changes.
pub record AppendsBytes {T : Type 0} (name bytes : List ℕ) (old new : StoreView)
    (result : Result T Failed) : Type 0 where
  pub added : OnOk result (AppendsToFile old.files new.files name bytes)
  pub others : ChangesOnlyFile old.files new.files name
  pub cause : WriteCause name old new result

-- A content exists, and its length exceeds the limit.
abbrev pub IsFileLonger : Option (List ℕ) → ℕ → Type 0
IsFileLonger None limit = ⊥
IsFileLonger (Some content) limit = limit < length content

-- The results of reading an entire file, each with its cause.
abbrev pub ReadsWholeFile : List ℕ → ℕ → StoreView → StoreView → Result (List ℕ) GetFault → Type 0
ReadsWholeFile name limit old new (Ok bytes) =
    (length bytes ≤ limit) × FileHolds old.files name bytes × HasNoNewFault old new
ReadsWholeFile name limit old new (Err fault.Missing) = LacksFile old.files name
    × HasNoNewFault old new
ReadsWholeFile name limit old new (Err fault.Failed) = CallFailed old new (read_call name)
ReadsWholeFile name limit old new (Err fault.TooLong) =
    WhereVisible old.files (λ visible. IsFileLonger (visible name) limit) × HasNoNewFault old new
ReadsWholeFile name limit old new (Err fault.Memory) = HasNoNewFault old new

-- The test whether a fault means out of memory.
abbrev pub get_is_out_of_memory : GetFault → Bool
get_is_out_of_memory fault.Memory = true
get_is_out_of_memory other = false

-- The only result of reading an entire visible file, if no fault is counted.
abbrev pub whole_file_result : Option (List ℕ) → ℕ → Result (List ℕ) GetFault
whole_file_result None limit = Err fault.Missing
whole_file_result (Some content) limit =
    if nat_le (length content) limit then Ok content else Err fault.TooLong

-- The bytes taken by a sink with more bytes at the end, if they are visible.
abbrev pub with_bytes_taken : Option (List ℕ) → List ℕ → Option (List ℕ)
with_bytes_taken None more = None
with_bytes_taken (Some before) more = Some (before ++ more)

-- The effect of a put on the bytes of a sink: all bytes are added, or some prefix of them.
abbrev pub TookBytes : {T : Type 0} → SinkView → SinkView → List ℕ → Result T Failed → Type 0
TookBytes old new bytes (Ok _) = new.taken ≡ with_bytes_taken old.taken bytes
TookBytes old new bytes (Err _) = (count : ℕ)
    × (new.taken ≡ with_bytes_taken old.taken (take count bytes))

-- The effect of a put on the fault count of a sink.
abbrev pub PutCause : {T : Type 0} → SinkView → SinkView → Result T Failed → Type 0
PutCause old new (Ok _) = new.faults ≡ old.faults
PutCause old new (Err _) = Rose old.faults new.faults × (old.faults ≤ new.faults)
