-- The entry of a name after one was put.
use Rattle.std.proofs.Common.{arith, ◌≡◌, ℕ, [], ◌∷◌, List, Some, if◌then◌else◌}
use Rattle.std.proofs.lemmas.Bool.Decides.{nat_tests}
use Rattle.std.proofs.lemmas.Slice.Eq.{bytes_eq-Decides}
use Rattle.std.specs.Str.{bytes_eq}
use Rattle.outside_io.specs.MemEntries.{EntryValue, entry_in, with_entry}

pub entry_in-with_entry : (entries : List EntryValue) (entry : EntryValue) (name : List ℕ)
    → entry_in (with_entry entries entry) name ≡ (if bytes_eq entry.name name then Some entry else entry_in entries name)
entry_in-with_entry [] entry name = grind (arith, nat_tests, bytes_eq-Decides)
entry_in-with_entry (e ∷ rest) entry name = grind (arith, nat_tests, bytes_eq-Decides, (entry_in-with_entry rest entry name))
