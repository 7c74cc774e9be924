-- The index of an entry among the entries of a store in memory.
use Rattle.std.specs.Prelude.{◌≡◌, ℕ, ◌<◌, List, [], ◌∷◌, ◌++◌, length, None, slice_get, slice_set, IfSome}
use Rattle.outside_io.specs.MemEntries.{EntryValue, entry_in, with_entry}

-- The index of the entry of a name: the entry is found there, and replaced there.
pub record IsEntryIndex (entries : List EntryValue) (name : List ℕ) (place : ℕ) : Type 0 where
  pub within : place < length entries
  pub found : entry_in entries name ≡ slice_get entries place
  pub named : IfSome (slice_get entries place) (λ entry. entry.name ≡ name)
  pub replaced : (entry : EntryValue) → entry.name ≡ name → with_entry entries entry
      ≡ slice_set entries place entry

-- No entry has that name: a new one is added at the end.
pub record HasNoEntry (entries : List EntryValue) (name : List ℕ) : Type 0 where
  pub missing : entry_in entries name ≡ None
  pub added : (entry : EntryValue) → entry.name ≡ name → with_entry entries entry
      ≡ entries ++ entry ∷ []
