-- Worked values of stores and sinks in memory: the name `a` (97) has a file of two bytes in a room of
-- three, and the name `b` (98) has room for two bytes and no file.
use Rattle.std.proofs.Common.{◌≡◌, ℕ, List, [], ◌∷◌, Some, None, Ok, Err, true, false, refl, ap, arith, true≢false}
use Rattle.outside_io.proofs.Names.{failure_added, put_failure_added, Failed, MemPuts, MemSinkValue, EntryValue, file_in, with_content, with_file, with_room, MemCreates, MemReads, MemStoreValue, empty_sink, put_fails, room_in, exceeds_room, with_bytes_appended, empty_store, is_next_call_listed}
use Rattle.outside_io.specs.MemStores.{files_of, store_view, visible_files}

pub two : List EntryValue
two =
    record { name = 97 ∷ []; content = Some (1 ∷ 2 ∷ []); room = 3 }
    ∷ record { name = 98 ∷ []; content = None; room = 2 }
    ∷ []

-- files and rooms, by name
pub known_file : file_in two (97 ∷ []) ≡ Some (1 ∷ 2 ∷ [])
unfolding two
known_file = refl

pub known_no_file : file_in two (98 ∷ []) ≡ None
unfolding two
known_no_file = refl

pub known_room : room_in two (98 ∷ []) ≡ Some 2
unfolding two
known_room = refl

pub known_no_room : room_in two (99 ∷ []) ≡ None
unfolding two
known_no_room = refl

-- one byte more fills the room of `a`, and two pass it
pub known_fit : exceeds_room two (97 ∷ []) (5 ∷ []) ≡ false
unfolding two
known_fit = refl

pub known_overflow : exceeds_room two (97 ∷ []) (5 ∷ 6 ∷ []) ≡ true
unfolding two
known_overflow = refl

-- A file that is set again keeps the larger room, and a longer one raises it.
pub known_kept_room : room_in (with_file two (97 ∷ []) (9 ∷ [])) (97 ∷ []) ≡ Some 3
unfolding two
known_kept_room = refl

pub known_raised_room : room_in (with_file two (98 ∷ []) (4 ∷ 5 ∷ 6 ∷ [])) (98 ∷ []) ≡ Some 3
unfolding two
known_raised_room = refl

-- A new name is added at the end, with its file and exactly the room for it.
pub known_new_room : room_in (with_file two (99 ∷ []) (4 ∷ [])) (99 ∷ []) ≡ Some 1
unfolding two
known_new_room = refl

-- raising the room of a name leaves its file
pub known_kept_file : file_in (with_room two (97 ∷ []) 7) (97 ∷ []) ≡ Some (1 ∷ 2 ∷ [])
unfolding two
known_kept_file = refl

-- an emptied file keeps its room
pub known_emptied : room_in (with_content two (97 ∷ []) []) (97 ∷ []) ≡ Some 3
unfolding two
known_emptied = refl

-- Bytes are appended to the file, and the other name keeps its room and has no file.
pub known_added : file_in (with_bytes_appended two (97 ∷ []) (5 ∷ [])) (97 ∷ []) ≡ Some (1 ∷ 2 ∷ 5 ∷ [])
unfolding two
known_added = refl

pub known_other_room : room_in (with_room two (97 ∷ []) 7) (98 ∷ []) ≡ Some 2
unfolding two
known_other_room = refl

pub known_larger_room : room_in (with_room two (97 ∷ []) 7) (97 ∷ []) ≡ Some 7
unfolding two
known_larger_room = refl

-- calls are numbered from 1: after two, the next is the third
pub known_is_next_call_listed : (is_next_call_listed (3 ∷ []) 2 ≡ true)
    × (is_next_call_listed (2 ∷ 4 ∷ []) 2 ≡ false)
known_is_next_call_listed = (refl, refl)

-- a number is added to those of the calls that shall fail
pub known_failure : (failure_added (failure_added empty_store 3) 5).failing ≡ 3 ∷ 5 ∷ []
known_failure = refl

pub known_put_failure : (put_failure_added (put_failure_added (empty_sink 2) 3) 5).failing ≡ 3 ∷ 5 ∷ []
known_put_failure = refl

-- a sink of two bytes in a room of three, whose second put is to fail
pub sink : ℕ → MemSinkValue
sink calls = record { bytes = 1 ∷ 2 ∷ []; room = 3; failing = 2 ∷ []; calls = calls; faults = 0 }

pub known_taken : put_fails (sink 2) (5 ∷ []) ≡ false
unfolding sink
known_taken = refl

pub known_full : put_fails (sink 2) (5 ∷ 6 ∷ []) ≡ true
unfolding sink
known_full = refl

pub known_refused : put_fails (sink 1) (5 ∷ []) ≡ true
unfolding sink
known_refused = refl

-- the first call of a new store and the first put of a new sink have the number 1, and the sink has its room
pub known_first : (is_next_call_listed (1 ∷ []) empty_store.calls ≡ true)
    × (put_fails (record (empty_sink 2) { failing = 1 ∷ [] }) [] ≡ true)
known_first = (refl, refl)

pub known_room_of_sink : (put_fails (empty_sink 2) (5 ∷ 6 ∷ []) ≡ false) × (put_fails (empty_sink 2) (5 ∷ 6 ∷ 7 ∷ []) ≡ true)
known_room_of_sink = (refl, refl)

-- the put that fails is counted
pub known_put_counted : (f : Failed) (new : MemSinkValue) → MemPuts {T = ℕ} (sink 1) new (5 ∷ []) (Err f) → new.calls ≡ 2
unfolding sink
known_put_counted f new puts = ap (λ (s : MemSinkValue). s.calls) puts.1

-- a store of these entries; no file is made without room, and all bytes that are there are read
abbrev store : MemStoreValue
store = record { entries = two; failing = []; calls = 0; faults = 0; blame = None }

pub known_not_made : (new : MemStoreValue) → MemCreates {T = ℕ} store new (99 ∷ []) (Ok 0) → ⊥
unfolding two
known_not_made new made = true≢false made.0

pub known_read : (new : MemStoreValue) (after : List ℕ) → MemReads store new (97 ∷ []) 1 (9 ∷ 9 ∷ []) after (Ok 0) → ⊥
unfolding two
known_read new after reads = one reads.3
  where
    one : ◌≡◌ {A = ℕ} 0 1 → ⊥
    one is = omega (arith, is)

-- the view of a store in memory: all of its files, and its faults
pub known_store_view : (store : MemStoreValue) → ((store_view store).files ≡ visible_files store)
    × (visible_files store ≡ Some (files_of store)) × ((store_view store).faults ≡ store.faults)
    × ((store_view store).blame ≡ store.blame)
known_store_view store = (refl, refl, refl, refl)
