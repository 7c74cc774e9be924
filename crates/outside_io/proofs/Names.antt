-- Names from elsewhere that several files of these proofs use.
pub use Rattle.std.proofs.Math.Seq.{drop-cons, take-add}
pub use Rattle.std.proofs.lemmas.Bool.Decides.{nat_tests}
pub use Rattle.std.proofs.lemmas.List.{length-take, length-take-le, set_split, take_all, take_rest}
pub use Rattle.std.proofs.lemmas.Slice.Eq.{bytes_eq-Decides}
pub use Rattle.std.specs.Io.KnownBytes.{Appends, Keeps}
pub use Rattle.std.specs.Str.{bytes_eq}
pub use Rattle.outside_io.specs.Blames.{Blame, FaultLogValue, LogsFailedCall, no_faults, read_call, with_failed_call, write_call}
pub use Rattle.outside_io.specs.Causes.{AppendsBytes, BufferMatches, BufferMatchesFile, CallFailed, HasNoNewFault, IsFileLonger}
pub use Rattle.outside_io.specs.Causes.{IsReadResult, PutCause, ReadCause, ReadsAt, ReadsWholeFile, TookBytes, WriteCause, WritesFile}
pub use Rattle.outside_io.specs.Causes.{get_is_out_of_memory, whole_file_result, with_bytes_taken}
pub use Rattle.outside_io.specs.Counts.{IsFaultless, MAX_COUNT, Rose, next_count}
pub use Rattle.outside_io.specs.FileParts.{IsContentPrefix, IsFilePrefix, IsNextPart, ReadsNextPart}
pub use Rattle.outside_io.specs.Files.{AppendsToFile, ChangesOnlyFile, FileHolds, Files, IsFileName, LacksFile, WhereVisible, is_file_name}
pub use Rattle.outside_io.specs.MemEntries.{EntryValue, entry_in, exceeds_room, file_in, room_in, with_bytes_appended, with_content}
pub use Rattle.outside_io.specs.MemEntries.{with_entry, with_file, with_room}
pub use Rattle.outside_io.specs.MemSinks.{MemPuts, MemSinkValue, empty_sink, put_fails, put_failure_added}
pub use Rattle.outside_io.specs.MemStores.{MemAppends, MemCreates, MemReads, MemStoreValue, after_fault, empty_store, failure_added}
pub use Rattle.outside_io.specs.MemStores.{is_next_call_listed}
pub use Rattle.outside_io.specs.Streams.{AddsPrefix, StreamPuts, StreamValue}
pub use Rattle.outside_io.specs.Views.{SinkView, StoreView}
pub use Rattle.outside_io.specs.declared.store.Failed.{Failed}
