-- Stores in memory. A store has an entry for each name with a file or room, the numbers of the
-- calls that shall fail, and the counts of calls and faults.
use Rattle.std.specs.Prelude.{◌≡◌, ℕ, ◌==◌, Bool, true, false, not, ◌||◌, List, [], ◌∷◌, ◌++◌, length, take, drop, Option, Some, None, Result, Ok, Err, is_some, min, unwrap_or}
use Rattle.std.specs.List.{list_any}
use Rattle.outside_io.specs.declared.store.Failed.{Failed}
use Rattle.outside_io.specs.declared.store.ReadStop.{ReadStop}
use Rattle.outside_io.specs.declared.store.ReadStop.TheVariants as stop
use Rattle.outside_io.specs.Blames.{Blame, read_call, write_call}
use Rattle.outside_io.specs.Counts.{next_count}
use Rattle.outside_io.specs.Files.{Files}
use Rattle.outside_io.specs.MemEntries.{EntryValue, file_in, exceeds_room, room_in, with_bytes_appended, with_content, with_file, with_room}
use Rattle.outside_io.specs.Views.{StoreView}

-- A store: the entries, the numbers of the calls that shall fail, and the counts of calls and
-- faults.
pub record MemStoreValue : Type 0 where
  pub entries : List EntryValue
  pub failing : List ℕ
  pub calls : ℕ
  pub faults : ℕ
  pub blame : Option Blame

-- The store without files, room, faults and calls that shall fail.
abbrev pub empty_store : MemStoreValue
empty_store = record { entries = []; failing = []; calls = 0; faults = 0; blame = None }

-- The files of a store.
abbrev pub files_of : MemStoreValue → Files
files_of store name = file_in store.entries name

-- The files of a store, all of which are visible.
abbrev pub visible_files : MemStoreValue → Option Files
visible_files store = Some (files_of store)

-- The view of a store: its files, its fault count and its blamed call.
abbrev pub store_view : MemStoreValue → StoreView
store_view store = record {
  files = visible_files store;
  faults = store.faults;
  blame = store.blame;
}

-- The room of each name.
abbrev pub rooms_of : MemStoreValue → List ℕ → Option ℕ
rooms_of store name = room_in store.entries name

-- The test whether the next call is one of those that shall fail.
abbrev pub is_next_call_listed : List ℕ → ℕ → Bool
is_next_call_listed failing calls = list_any (λ n. n == next_count calls) failing

-- The store after its named file was set.
abbrev pub file_set : MemStoreValue → List ℕ → List ℕ → MemStoreValue
file_set store name content = record store { entries = with_file store.entries name content }

-- The store after the room of a name was raised.
abbrev pub room_raised : MemStoreValue → List ℕ → ℕ → MemStoreValue
room_raised store name room = record store { entries = with_room store.entries name room }

-- The store after a number was added to those of the calls that shall fail.
abbrev pub failure_added : MemStoreValue → ℕ → MemStoreValue
failure_added store call = record store { failing = store.failing ++ call ∷ [] }

-- The store after a successful call that resulted in these entries.
abbrev pub after_call : MemStoreValue → List EntryValue → MemStoreValue
after_call store entries = record store { entries = entries; calls = next_count store.calls }

-- The store after a failed call.
abbrev pub after_fault : MemStoreValue → Blame → MemStoreValue
after_fault store call = record store {
  calls = next_count store.calls;
  faults = next_count store.faults;
  blame = Some call;
}

-- The results of a read. A read fails exactly if its number is listed. The bytes of the content
-- from the offset on are copied to the front of the buffer; the rest of the buffer is unchanged.
abbrev pub MemReads : MemStoreValue → MemStoreValue → List ℕ → ℕ → (before after : List ℕ)
    → Result ℕ ReadStop → Type 0
MemReads old new name offset before after (Ok count) =
    (is_next_call_listed old.failing old.calls ≡ false) × (new ≡ after_call old old.entries)
    × (is_some (files_of old name) ≡ true)
    × (count ≡ min (length before) (length (drop offset (unwrap_or (files_of old name) []))))
    × (after ≡ take count (drop offset (unwrap_or (files_of old name) [])) ++ drop count before)
MemReads old new name offset before after (Err stop.Missing) =
    (is_next_call_listed old.failing old.calls ≡ false) × (new ≡ after_call old old.entries)
    × (files_of old name ≡ None)
    × (after ≡ before)
MemReads old new name offset before after (Err stop.Failed) =
    (is_next_call_listed old.failing old.calls ≡ true) × (new ≡ after_fault old (read_call name))
    × (after ≡ before)

-- The results of a create. A create fails exactly if its number is listed or the name has no room.
abbrev pub MemCreates : {T : Type 0} → MemStoreValue → MemStoreValue → List ℕ → Result T Failed
    → Type 0
MemCreates old new name (Ok _) =
    ((is_next_call_listed old.failing old.calls || not (is_some (rooms_of old name))) ≡ false)
    × (new ≡ after_call old (with_content old.entries name []))
MemCreates old new name (Err _) =
    ((is_next_call_listed old.failing old.calls || not (is_some (rooms_of old name))) ≡ true)
    × (new ≡ after_fault old (write_call name))

-- The results of an append. An append fails exactly if its number is listed or the room is too
-- small.
abbrev pub MemAppends : {T : Type 0} → MemStoreValue → MemStoreValue → List ℕ → List ℕ
    → Result T Failed → Type 0
MemAppends old new name bytes (Ok _) =
    ((is_next_call_listed old.failing old.calls || exceeds_room old.entries name bytes) ≡ false)
    × (new ≡ after_call old (with_bytes_appended old.entries name bytes))
MemAppends old new name bytes (Err _) =
    ((is_next_call_listed old.failing old.calls || exceeds_room old.entries name bytes) ≡ true)
    × (new ≡ after_fault old (write_call name))
