-- How far the entries of a store in memory were passed in the search for a name.
use Rattle.std.proofs.Common.{arith, ◌≡◌, ℕ, ◌<◌, ◌++◌, List, Some, [], length, refl, subst, unwrap_or, take, drop, get_or, true}
use Rattle.std.specs.Prelude.{slice_set}
use Rattle.std.proofs.lemmas.Option.{slice_get-get_or, slice_get_read}
use Rattle.outside_io.proofs.Names.{nat_tests, bytes_eq-Decides, bytes_eq, EntryValue, entry_in, with_bytes_appended, with_content, with_entry, drop-cons, set_split}
use Rattle.outside_io.specs.EntryIndexes.{IsEntryIndex}

-- none of the first entries has that name
pub record Passed (entries : List EntryValue) (name : List ℕ) (place : ℕ) : Type 0 where
  pub found : entry_in entries name ≡ entry_in (drop place entries) name
  pub replaced : (entry : EntryValue) → entry.name ≡ name →
      with_entry entries entry ≡ take place entries ++ with_entry (drop place entries) entry

-- the search ends at the first entry of that name
pub passed-here : (entries : List EntryValue) (name : List ℕ) (place : ℕ) (entry : EntryValue) → Passed entries name place
    → place < length entries → entry ≡ get_or entries place entry → bytes_eq entry.name name ≡ true → IsEntryIndex entries name place
passed-here entries name place entry passed within here is =
    let left = drop-cons entries place entry within in
    let got = slice_get-get_or entries place entry within in
    record {
      within = within;
      found = grind (arith, nat_tests, bytes_eq-Decides, passed.found, left, got, here);
      named = grind (arith, nat_tests, bytes_eq-Decides, got, here);
      replaced = λ new same. grind (arith, nat_tests, bytes_eq-Decides, passed.replaced, left, here, set_split, within);
    }

-- The entry at its index is that of its name.
pub found_here : (seen entries : List EntryValue) (name : List ℕ) (place : ℕ) (entry : EntryValue) → seen ≡ entries
    → IsEntryIndex seen name place → entry ≡ get_or entries place entry → entry_in entries name ≡ Some entry
found_here seen entries name place entry same index here =
    let got = slice_get_read entries _ place entry refl (subst (λ (all : List EntryValue). place < length all) same index.within) here in
    grind (arith, nat_tests, same, index.found, got)

-- An entry that is replaced at its index is replaced by name, with another content.
pub content_set : (seen entries : List EntryValue) (name content : List ℕ) (place : ℕ) (old new : EntryValue) → seen ≡ entries
    → IsEntryIndex seen name place → old ≡ get_or entries place old
    → new ≡ record { name = old.name; content = Some content; room = old.room }
    → slice_set entries place new ≡ with_content entries name content
content_set seen entries name content place old new same index here is =
    let found = found_here seen entries name place old same index here in
    grind (arith, nat_tests, same, index.found, index.named, (index.replaced new), found, is)

-- The same, with more bytes at the end of its content.
pub bytes_set : (seen entries : List EntryValue) (name bytes : List ℕ) (place : ℕ) (old new : EntryValue) → seen ≡ entries
    → IsEntryIndex seen name place → old ≡ get_or entries place old
    → new ≡ record { name = old.name; content = Some (unwrap_or old.content [] ++ bytes); room = old.room }
    → slice_set entries place new ≡ with_bytes_appended entries name bytes
bytes_set seen entries name bytes place old new same index here is =
    let found = found_here seen entries name place old same index here in
    rw found (rw found at (content_set seen entries name (unwrap_or old.content [] ++ bytes) place old new same index here is))
