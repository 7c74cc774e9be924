-- What the results of calls on the outside exclude.
use Rattle.std.proofs.Common.{◌≡◌, ◌≢◌, ℕ, ◌+◌, ◌<◌, ◌≤◌, List, [], ◌∷◌, ◌++◌, Option, None, Some, Result, Ok, Err, IfOk, OnOk, length, take, arith, ap, ⊎_elim}
use Rattle.std.specs.Io.KnownBytes.{Appends}
use Rattle.outside_io.proofs.Names.{AppendsBytes, AppendsToFile, FileHolds, IsReadResult, ReadsAt, WritesFile, Failed, Blame, read_call, with_failed_call, write_call, BufferMatches, HasNoNewFault, ReadCause, ReadsWholeFile, TookBytes, WriteCause, with_bytes_taken, IsFaultless, MAX_COUNT, Rose, next_count, ReadsNextPart, ChangesOnlyFile, Files, IsFileName, MemPuts, MemSinkValue, MemCreates, MemReads, MemStoreValue, AddsPrefix, StreamPuts, SinkView, StoreView, FaultLogValue, LogsFailedCall, CallFailed, MemAppends, after_fault, StreamValue}
use Rattle.outside_io.specs.declared.store.ReadStop.{ReadStop}
use Rattle.outside_io.specs.declared.store.ReadStop.TheVariants as stop
use Rattle.outside_io.specs.declared.whole_files.GetFault.TheVariants as fault

-- a store of these faults and this blame, whose files are hidden
abbrev view : ℕ → Option Blame → StoreView
view faults blame = record { files = None; faults = faults; blame = blame }

abbrev Differ : ℕ → ℕ → Type 0
Differ m n = m ≡ n → ⊥

-- a call without a fault leaves count and blame, and one that failed raises the count and has the blame
pub known_new_fault : HasNoNewFault (view 3 None) (view 4 None) → ⊥
known_new_fault is = other is.count
  where
    other : Differ 4 3
    other same = omega (arith, same)

pub known_new_blame : HasNoNewFault (view 3 None) (view 3 (Some (read_call (97 ∷ [])))) → ⊥
known_new_blame is = other is.blame
  where
    other : Some (read_call (97 ∷ [])) ≡ None → ⊥
    other same = cc

pub known_uncounted : (call : Blame) → CallFailed (view 3 None) (view 3 (Some call)) call → ⊥
known_uncounted call is = ⊎_elim (λ above. more above) (λ most. other most) is.rose
  where
    more : 3 < 3 → ⊥
    more less = omega (arith, less)

    other : 3 ≡ MAX_COUNT → ⊥
    other same = omega (arith, same)

pub known_unblamed : (call : Blame) → CallFailed (view 3 None) (view 4 None) call → ⊥
known_unblamed call is = other is.blame
  where
    other : ◌≡◌ {A = Option Blame} None (Some call) → ⊥
    other same = cc

-- a count never falls, not even to its maximum
pub known_fallen : (call : Blame) (old : ℕ) → MAX_COUNT < old → CallFailed (view old None) (view MAX_COUNT (Some call)) call → ⊥
known_fallen call old above is = omega (arith, above, is.kept)

-- a count that rose, or is at its maximum
pub known_rose : (before now : ℕ) → Rose before now → now ≡ before → now < 18446744073709551615 → ⊥
known_rose before now rose same less = ⊎_elim (λ above. omega (arith, above, same)) (λ most. omega (arith, most, less)) rose

pub known_faultless : (before now : ℕ) → IsFaultless before now → (now ≡ before) × (now ≢ 18446744073709551615)
known_faultless before now is = (is.same, is.below)

-- What a read and the two writes state: each part needs a field of its own.
pub known_reads : (name buffer : List ℕ) (offset : ℕ) (old new : StoreView) (result : Result ℕ ReadStop)
    → ReadsAt name offset old new buffer result → (new.files ≡ old.files) × IfOk result (λ count. count ≤ length buffer)
    × IsReadResult old.files name offset buffer result × ReadCause name old new result
known_reads name buffer offset old new result is = (is.same, is.bound, is.gives, is.cause)

pub known_writes : (name content : List ℕ) (old new : StoreView) (result : Result ℕ Failed) → WritesFile name content old new result
    → OnOk result (FileHolds new.files name content) × ChangesOnlyFile old.files new.files name × WriteCause name old new result
known_writes name content old new result is = (is.holds, is.others, is.cause)

pub known_appends : (name bytes : List ℕ) (old new : StoreView) (result : Result ℕ Failed) → AppendsBytes name bytes old new result
    → OnOk result (AppendsToFile old.files new.files name bytes) × ChangesOnlyFile old.files new.files name
    × WriteCause name old new result
known_appends name bytes old new result is = (is.added, is.others, is.cause)

-- a missing file is no fault; a failed read and a failed write are
pub known_missing : (name : List ℕ) (old new : StoreView) → ReadCause {T = ℕ} name old new (Err stop.Missing) → new.faults ≡ old.faults
known_missing name old new cause = cause.count

pub known_read_blame : (name : List ℕ) (old new : StoreView) → ReadCause {T = ℕ} name old new (Err stop.Failed)
    → (new.blame ≡ Some (read_call name)) × Rose old.faults new.faults
known_read_blame name old new cause = (cause.blame, cause.rose)

pub known_write_blame : (name : List ℕ) (old new : StoreView) (f : Failed) → WriteCause {T = ℕ} name old new (Err f)
    → (new.blame ≡ Some (write_call name)) × Rose old.faults new.faults
known_write_blame name old new f cause = (cause.blame, cause.rose)

pub known_written : (name : List ℕ) (old new : StoreView) (n : ℕ) → WriteCause {T = ℕ} name old new (Ok n)
    → (new.blame ≡ old.blame) × (new.faults ≡ old.faults)
known_written name old new n cause = (cause.blame, cause.count)

-- the sum of bytes
abbrev sum : List ℕ → ℕ
sum [] = 0
sum (byte ∷ rest) = byte + sum rest

-- a buffer has the file's bytes
pub known_other_bytes : BufferMatches (7 ∷ 8 ∷ 9 ∷ []) 1 (8 ∷ 8 ∷ []) 2 → ⊥
known_other_bytes is = other (ap (λ (bytes : List ℕ). sum bytes) is.bytes)
  where
    other : Differ 16 17
    other same = omega (arith, same)

-- a failed put adds some first bytes
pub known_prefix : (old new : SinkView) (bytes : List ℕ) (f : Failed) → TookBytes {T = ℕ} old new bytes (Err f)
    → (count : ℕ) × (new.taken ≡ with_bytes_taken old.taken (take count bytes))
known_prefix old new bytes f took = took

-- the parts of a prefix and what is left are the bytes; a fault is counted once
pub known_parts : (old new bytes left : List ℕ) → AddsPrefix (Some old) (Some new) bytes left
    → (first : List ℕ) × (first ++ left ≡ bytes) × (new ≡ old ++ first)
known_parts old new bytes left adds = (adds.first, adds.parts, adds.added)

pub known_stream : (old new : StreamValue) (bytes : List ℕ) (f : Failed) → StreamPuts {T = ℕ} old new bytes (Err f)
    → ((left : List ℕ) × AddsPrefix old.held new.held bytes left) × (new.faults ≡ next_count old.faults)
known_stream old new bytes f puts = puts

pub known_stream_done : (old new : StreamValue) (bytes : List ℕ) (n : ℕ) → StreamPuts {T = ℕ} old new bytes (Ok n)
    → Appends old.held new.held bytes × (new.faults ≡ old.faults)
known_stream_done old new bytes n puts = puts

pub known_logged : (call : Blame) (old new : FaultLogValue) (f : Failed) (n : ℕ)
    → (LogsFailedCall {T = ℕ} call old new (Err f) → new ≡ with_failed_call old call)
    × (LogsFailedCall {T = ℕ} {E = Failed} call old new (Ok n) → new ≡ old)
known_logged call old new f n = (λ logs. logs, λ logs. logs)

-- a sink and a store in memory count each call once, and each fault once
pub known_sink : (old new : MemSinkValue) (bytes : List ℕ) (f : Failed) (n : ℕ)
    → (MemPuts {T = ℕ} old new bytes (Err f) → (new.faults ≡ next_count old.faults) × (new.bytes ≡ old.bytes))
    × (MemPuts {T = ℕ} old new bytes (Ok n)
    → (new.faults ≡ old.faults) × (new.calls ≡ next_count old.calls) × (new.bytes ≡ old.bytes ++ bytes))
known_sink old new bytes f n = (
  λ puts. (ap (λ (s : MemSinkValue). s.faults) puts.1, ap (λ (s : MemSinkValue). s.bytes) puts.1),
  λ puts. (
    ap (λ (s : MemSinkValue). s.faults) puts.1,
    ap (λ (s : MemSinkValue). s.calls) puts.1,
    ap (λ (s : MemSinkValue). s.bytes) puts.1,
  ),
)

pub known_failed_read : (old new : MemStoreValue) (name before after : List ℕ) (at : ℕ)
    → MemReads old new name at before after (Err stop.Failed)
    → (new ≡ after_fault old (read_call name)) × (after ≡ before)
known_failed_read old new name before after at reads = (reads.1, reads.2)

pub known_failed_write : (old new : MemStoreValue) (name bytes : List ℕ) (f : Failed)
    → (MemCreates {T = ℕ} old new name (Err f) → new ≡ after_fault old (write_call name))
    × (MemAppends {T = ℕ} old new name bytes (Err f) → new ≡ after_fault old (write_call name))
known_failed_write old new name bytes f = (λ creates. creates.1, λ appends. appends.1)

-- a failed read of an entire file is blamed on that file
pub known_whole_failed : (name : List ℕ) (limit : ℕ) (old new : StoreView) → ReadsWholeFile name limit old new (Err fault.Failed)
    → new.blame ≡ Some (read_call name)
known_whole_failed name limit old new reads = reads.blame

-- no fault is counted where a file is read whole, is missing, or is too long, nor for want of memory
pub known_whole_faultless : (name bytes : List ℕ) (limit : ℕ) (old new : StoreView)
    → (ReadsWholeFile name limit old new (Ok bytes) → HasNoNewFault old new)
    × (ReadsWholeFile name limit old new (Err fault.Missing) → HasNoNewFault old new)
    × (ReadsWholeFile name limit old new (Err fault.TooLong) → HasNoNewFault old new)
    × (ReadsWholeFile name limit old new (Err fault.Memory) → HasNoNewFault old new)
known_whole_faultless name bytes limit old new = (λ reads. reads.2, λ reads. reads.1, λ reads. reads.1, λ reads. reads)

-- the next part is within the limit and the buffer
pub known_part : (name before buffer : List ℕ) (limit count : ℕ) (old new : StoreView)
    → ReadsNextPart name (length before) limit old new buffer (Ok count)
    → (length before + count ≡ limit + 1 → ⊥) × (count ≤ length buffer) × HasNoNewFault old new
known_part name before buffer limit count old new reads = (λ more. omega (arith, more, reads.1), reads.2, reads.0)

-- visible files stay visible, and only the named one changes
pub known_hidden : (old new : Files) (name : List ℕ)
    → (ChangesOnlyFile (Some old) None name → ⊥) × (ChangesOnlyFile None (Some new) name → ⊥)
known_hidden old new name = (λ changes. changes, λ changes. changes)

-- a name has a byte and at most 4,096
pub known_name : (name : List ℕ) → IsFileName name → (length name ≡ 0 → ⊥) × (length name ≡ 4097 → ⊥)
known_name name is = (λ none. omega (arith, none, is.some), λ long. omega (arith, long, is.short))
