-- The list of names of a store has each name with room, whatever is done to the store.
use Rattle.std.proofs.Common.{refl, sym, subst, ◌≡◌, ℕ, Bool, true, false, [], ◌∷◌, ◌++◌, ◌||◌, not, List, Option, Some, None, IsSome, Result, Ok, Err, if◌then◌else◌, is_some, option_and_then, option_map}
use Rattle.std.proofs.lemmas.List.Folds.{list_any-append}
use Rattle.std.proofs.lemmas.Slice.Eq.{bytes_eq-Decides}
use Rattle.std.specs.Str.{bytes_eq}
use Rattle.outside_io.specs.Files.{FileExists}
use Rattle.outside_io.specs.MemEntries.{EntryValue, entry_in, file_in, room_in, with_entry}
use Rattle.outside_io.specs.MemStores.{MemAppends, MemCreates, MemStoreValue, file_set, files_of, room_raised, visible_files}
use Rattle.outside_io.specs.declared.store.Failed.{Failed}
use Rattle.task_runs.proofs.StoreLemmas.{entry_in-with_entry}
use Rattle.task_runs.specs.NameLists.{ListsFiles, ListsRooms, is_listed, with_name}

-- each name that entries have room for is listed
abbrev pub Lists : List (List ℕ) → List EntryValue → Type 0
Lists names entries = (name : List ℕ) → is_listed names name ≡ false → room_in entries name ≡ None

neither : (a b : Bool) → (a || (b || false)) ≡ false → (a ≡ false) × (b ≡ false)
neither true b is = absurd (cc)
neither false true is = absurd (cc)
neither false false is = (refl, refl)

-- a name that the longer list lacks
pub lacks_more : (names : List (List ℕ)) (name other : List ℕ) → is_listed (with_name names name) other ≡ false
    → (is_listed names other ≡ false) × (bytes_eq name other ≡ false)
lacks_more names name other lacks = by_test (is_listed names name) refl lacks
  where
    apart : (b : Bool) → bytes_eq name other ≡ b → is_listed names name ≡ true → is_listed names other ≡ false
        → bytes_eq name other ≡ false
    apart false is has out = is
    apart true is has out = let same : name ≡ other = (bytes_eq-Decides name other).0 is in absurd (cc)

    by_test : (b : Bool) → is_listed names name ≡ b
        → is_listed (if b then names else names ++ name ∷ []) other ≡ false
        → (is_listed names other ≡ false) × (bytes_eq name other ≡ false)
    by_test true has out = (out, apart (bytes_eq name other) refl has out)
    by_test false new out = neither _ _ (rw (list_any-append (λ n. bytes_eq n other) names (name ∷ [])) at out)

-- the room of a name after an entry was put
room_in-with_entry : (entries : List EntryValue) (entry : EntryValue) (other : List ℕ) → bytes_eq entry.name other ≡ false
    → room_in (with_entry entries entry) other ≡ room_in entries other
room_in-with_entry entries entry other apart =
    let is = entry_in-with_entry entries entry other in rw (is, apart) refl

-- an entry of a name that is listed then
pub lists_put : (names : List (List ℕ)) (entries : List EntryValue) (entry : EntryValue) → Lists names entries
    → Lists (with_name names entry.name) (with_entry entries entry)
lists_put names entries entry lists other lacks =
    let both = lacks_more names entry.name other lacks in
    rw (room_in-with_entry entries entry other both.1) (lists other both.0)

-- names are listed though no entry is put
pub lists_more : (names : List (List ℕ)) (entries : List EntryValue) (name : List ℕ) → Lists names entries
    → Lists (with_name names name) entries
lists_more names entries name lists other lacks = lists other (lacks_more names name other lacks).0

-- an entry of a name that had room
pub lists_kept : (names : List (List ℕ)) (entries : List EntryValue) (entry : EntryValue) → Lists names entries
    → is_some (room_in entries entry.name) ≡ true → Lists names (with_entry entries entry)
lists_kept names entries entry lists has other lacks = by_test (bytes_eq entry.name other) refl
  where
    by_test : (b : Bool) → bytes_eq entry.name other ≡ b → room_in (with_entry entries entry) other ≡ None
    by_test false is = rw (room_in-with_entry entries entry other is) (lists other lacks)
    by_test true is =
        let same : entry.name ≡ other = (bytes_eq-Decides entry.name other).0 is in
        let none : room_in entries entry.name ≡ None = rw (same) (lists other lacks) in
        absurd (cc)

-- the file or the room of a name was set
pub lists_set : (names more : List (List ℕ)) (old new : MemStoreValue) (name content : List ℕ)
    → more ≡ with_name names name → new ≡ file_set old name content → ListsRooms names old → ListsRooms more new
lists_set names more old new name content is_more is_new lists =
    subst (λ (m : List (List ℕ)). ListsRooms m new) (sym is_more) (subst (λ (s : MemStoreValue). ListsRooms (with_name names name) s)
    (sym is_new) (lists_put names old.entries _ lists))

pub lists_raised : (names more : List (List ℕ)) (old new : MemStoreValue) (name : List ℕ) (room : ℕ)
    → more ≡ with_name names name → new ≡ room_raised old name room → ListsRooms names old → ListsRooms more new
lists_raised names more old new name room is_more is_new lists =
    subst (λ (m : List (List ℕ)). ListsRooms m new) (sym is_more) (subst (λ (s : MemStoreValue). ListsRooms (with_name names name) s)
    (sym is_new) (lists_put names old.entries _ lists))

-- a name without room has no file
no_file : (entries : List EntryValue) (name : List ℕ) → room_in entries name ≡ None → file_in entries name ≡ None
no_file entries name none = of_entry (entry_in entries name) none
  where
    of_entry : (entry : Option EntryValue) → option_map (λ e. e.room) entry ≡ None → option_and_then (λ e. e.content) entry ≡ None
    of_entry None is = refl
    of_entry (Some e) is = absurd (cc)

pub lists_files : (names : List (List ℕ)) (store : MemStoreValue) → ListsRooms names store → ListsFiles names (files_of store)
lists_files names store lists name lacks = no_file store.entries name (lists name lacks)

-- a file has room
file_has_room : (entries : List EntryValue) (name : List ℕ) → IsSome (file_in entries name) → is_some (room_in entries name) ≡ true
file_has_room entries name there = of_entry (entry_in entries name) there
  where
    of_entry : (entry : Option EntryValue) → IsSome (option_and_then (λ e. e.content) entry)
        → is_some (option_map (λ e. e.room) entry) ≡ true
    of_entry None is = absurd (cc)
    of_entry (Some e) is = refl

not_either : (a b : Bool) → (a || not b) ≡ false → b ≡ true
not_either true b is = absurd (cc)
not_either false true is = refl
not_either false false is = absurd (cc)

-- a file was created, or not
pub lists_created : {T : Type 0} (names : List (List ℕ)) (old new : MemStoreValue) (name : List ℕ) (result : Result T Failed)
    → MemCreates old new name result → ListsRooms names old → ListsRooms names new
lists_created names old new name (Ok made) is lists = subst (λ (s : MemStoreValue). ListsRooms names s) (sym is.1)
    (lists_kept names old.entries _ lists (not_either _ _ is.0))
lists_created names old new name (Err failed) is lists = subst (λ (s : MemStoreValue). ListsRooms names s) (sym is.1) lists

-- bytes were appended to a file, or not
pub lists_appended : {T : Type 0} (names : List (List ℕ)) (old new : MemStoreValue) (name bytes : List ℕ) (result : Result T Failed)
    → MemAppends old new name bytes result → FileExists (visible_files old) name → ListsRooms names old → ListsRooms names new
lists_appended names old new name bytes (Ok made) is there lists = subst (λ (s : MemStoreValue). ListsRooms names s) (sym is.1)
    (lists_kept names old.entries _ lists (file_has_room old.entries name (there (files_of old) refl)))
lists_appended names old new name bytes (Err failed) is there lists =
    subst (λ (s : MemStoreValue). ListsRooms names s) (sym is.1) lists
