-- Worked values of entries of a store in memory, by their index, and of the room of a name.
use Rattle.std.proofs.Common.{◌≡◌, ℕ, List, [], ◌∷◌, ◌++◌, Option, Some, None, slice_set, refl, ap, arith}
use Rattle.outside_io.proofs.Names.{EntryValue, entry_in, with_entry, empty_store}
use Rattle.outside_io.specs.EntryIndexes.{HasNoEntry, IsEntryIndex}
use Rattle.outside_io.specs.MemStores.{room_raised, rooms_of}

-- the names `a`, `b` and `c`
abbrev a : List ℕ
a = 97 ∷ []

abbrev b : List ℕ
b = 98 ∷ []

abbrev c : List ℕ
c = 99 ∷ []

-- `a` has a file of two bytes in a room of three, `b` a room of two and no file
abbrev two : List EntryValue
two = record { name = a; content = Some (1 ∷ 2 ∷ []); room = 3 } ∷ record { name = b; content = None; room = 2 } ∷ []

-- the room of an entry, or 9 where there is none
abbrev room_of : Option EntryValue → ℕ
room_of None = 9
room_of (Some entry) = entry.room

-- an index is one of an entry
pub known_past : IsEntryIndex two c 2 → ⊥
known_past is = omega (arith, is.within)

-- what is found under a name is at its index: the room of `b` isn't that of `a`
pub known_other_index : IsEntryIndex two b 0 → ⊥
known_other_index is = let rooms : 2 ≡ 3 = ap room_of is.found in omega (arith, rooms)

-- the entry at an index has the name, and another with that name replaces it there
pub known_index : IsEntryIndex two b 1
    → (b ≡ b) × ((entry : EntryValue) → entry.name ≡ b → with_entry two entry ≡ slice_set two 1 entry)
known_index is = (is.named, is.replaced)

-- a name without an entry isn't found, and its entry is added after all others
pub known_no_entry : HasNoEntry two b → ⊥
known_no_entry is = let rooms : 2 ≡ 9 = ap room_of is.missing in omega (arith, rooms)

pub known_added_entry : HasNoEntry two c
    → (entry_in two c ≡ None) × ((entry : EntryValue) → entry.name ≡ c → with_entry two entry ≡ two ++ entry ∷ [])
known_added_entry is = (is.missing, is.added)

-- a name gets at least its room, and keeps a larger one
pub known_raised : (rooms_of (room_raised (record empty_store { entries = two }) b 5) b ≡ Some 5)
    × (rooms_of (room_raised (record empty_store { entries = two }) a 1) a ≡ Some 3)
    × ((room_raised (record empty_store { entries = two; calls = 4 }) c 1).calls ≡ 4)
known_raised = (refl, refl, refl)
