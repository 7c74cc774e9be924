-- What putting an entry changes: the file and the room of its name, and nothing else.
use Rattle.std.proofs.Common.{arith, ◌≡◌, ◌≢◌, ℕ, ◌∷◌, [], List, Some, subst}
use Rattle.outside_io.proofs.Names.{nat_tests, bytes_eq-Decides, Files, WhereVisible, EntryValue, entry_in, file_in, with_entry}

-- A fact of visible files holds wherever they are visible.
pub where_told : (P : Files → Type 0) (files : Files) → P files → WhereVisible (Some files) P
where_told P files holds told is = let same : files ≡ told = cc in subst P same holds

-- the entry that was put is the one of its name
pub entry_in-with_entry : (entries : List EntryValue) (entry : EntryValue) → entry_in (with_entry entries entry) entry.name ≡ Some entry
entry_in-with_entry [] entry = grind (arith, nat_tests, bytes_eq-Decides)
entry_in-with_entry (e ∷ rest) entry = grind (arith, nat_tests, bytes_eq-Decides, (entry_in-with_entry rest entry))

-- the entries of other names stay
pub entry_in-put_in_other : (entries : List EntryValue) (entry : EntryValue) (other : List ℕ) → other ≢ entry.name →
    entry_in (with_entry entries entry) other ≡ entry_in entries other
entry_in-put_in_other [] entry other differs = grind (arith, nat_tests, bytes_eq-Decides)
entry_in-put_in_other (e ∷ rest) entry other differs =
    grind (arith, nat_tests, bytes_eq-Decides, (entry_in-put_in_other rest entry other differs))

-- the file of the name that was put
pub file_in-with_entry : (entries : List EntryValue) (entry : EntryValue) (name : List ℕ) → entry.name ≡ name →
    file_in (with_entry entries entry) name ≡ entry.content
file_in-with_entry entries entry name same = rw (← same) (rw (entry_in-with_entry entries entry))

-- the files of other names stay
pub file_in-put_in_other : (entries : List EntryValue) (entry : EntryValue) (other : List ℕ) → other ≢ entry.name →
    file_in (with_entry entries entry) other ≡ file_in entries other
file_in-put_in_other entries entry other differs = rw (entry_in-put_in_other entries entry other differs)
