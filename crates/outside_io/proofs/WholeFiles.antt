-- The relation between the bytes read so far and a visible file.
use Rattle.std.proofs.Common.{◌≡◌, ℕ, ◌+◌, ◌<◌, ◌≤◌, ◌++◌, List, length, take, Some, None, Option, Result, Ok, Err, IsErrAnd, refl, sym, subst, ◌∙◌, arith, length-append, length-drop}
use Rattle.outside_io.proofs.Names.{nat_tests, length-take-le, IsFileLonger, HasNoNewFault, IsContentPrefix, IsFilePrefix, StoreView, take-add, take_all, length-take, BufferMatchesFile, Files, LacksFile, ReadsNextPart, ReadsWholeFile}
use Rattle.outside_io.specs.declared.whole_files.GetFault.{GetFault}
use Rattle.outside_io.specs.declared.whole_files.GetFault.TheVariants as fault

-- what stayed twice stayed
pub stays_on : {old mid new : StoreView} → HasNoNewFault old mid → HasNoNewFault mid new → HasNoNewFault old new
stays_on first next = record { count = next.count ∙ first.count; blame = next.blame ∙ first.blame }

-- At the end of the file, the bytes are the entire content.
pub whole_at_end : (file : Option (List ℕ)) (bytes buffer : List ℕ) (offset count : ℕ) → IsContentPrefix file bytes →
    offset ≡ length bytes → BufferMatchesFile file offset buffer count → 0 < length buffer → count ≡ 0 → file ≡ Some bytes
whole_at_end None bytes buffer offset count begins place reads room none = absurd reads
whole_at_end (Some content) bytes buffer offset count begins place reads room none =
    grind (arith, nat_tests, take_all, (begins content refl), reads.some)

-- what the buffer adds continues the content
pub begins_more : (file : Option (List ℕ)) (bytes buffer : List ℕ) (offset count : ℕ) → IsContentPrefix file bytes → offset ≡ length bytes
    → BufferMatchesFile file offset buffer count → count ≤ length buffer → IsContentPrefix file (bytes ++ take count buffer)
begins_more None bytes buffer offset count begins place reads within content is = absurd reads
begins_more (Some whole) bytes buffer offset count begins place reads within content is =
    grind (arith, nat_tests, (begins content is), reads.bytes, length-append, length-take-le, take-add)

-- If more bytes than the limit were read, the content is longer.
pub longer_than : (file : Option (List ℕ)) (bytes buffer : List ℕ) (offset count limit : ℕ) → IsContentPrefix file bytes
    → offset ≡ length bytes → BufferMatchesFile file offset buffer count → limit < offset + count → IsFileLonger file limit
longer_than None bytes buffer offset count limit begins place reads over = reads
longer_than (Some content) bytes buffer offset count limit begins place reads over =
    grind (arith, nat_tests, (begins content refl), reads.left, length-take, length-drop)

-- A part that can't be read fails the whole file.
part_fails : (name bytes buffer : List ℕ) (limit : ℕ) (old mid new : StoreView) (why : GetFault) → mid.files ≡ old.files
    → HasNoNewFault old mid → IsFilePrefix old.files name bytes → ReadsNextPart name (length bytes) limit mid new buffer (Err why)
    → ReadsWholeFile name limit old new (Err why)
part_fails name bytes buffer limit old mid new fault.Missing same stays begins reads =
    (subst (λ (files : Option Files). LacksFile files name) same reads.0, stays_on stays reads.1)
part_fails name bytes buffer limit old mid new fault.Failed same stays begins reads =
    grind (arith, nat_tests, stays.count, reads.rose, reads.kept, reads.blame)
part_fails name bytes buffer limit old mid new fault.TooLong same stays begins reads =
    (λ told is. reads.1 bytes refl (λ seen at. begins seen (sym same ∙ at)) told (same ∙ is), stays_on stays reads.0)
part_fails name bytes buffer limit old mid new fault.Memory same stays begins reads = stays_on stays reads

-- The result is then the fault of that part.
pub part_failed : (name bytes buffer : List ℕ) (offset limit : ℕ) (old mid new : StoreView) (why : GetFault)
    (result : Result (List ℕ) GetFault) → IsErrAnd result (λ (f : GetFault). f ≡ why) → mid.files ≡ old.files → HasNoNewFault old mid
    → IsFilePrefix old.files name bytes → offset ≡ length bytes → ReadsNextPart name offset limit mid new buffer (Err why)
    → ReadsWholeFile name limit old new result
part_failed name bytes buffer offset limit old mid new why (Ok _) never same stays begins place reads = absurd never
part_failed name bytes buffer offset limit old mid new why (Err f) is same stays begins place reads =
    let here = subst (λ (at : ℕ). ReadsNextPart name at limit mid new buffer (Err why)) place reads in
    subst (λ (f : GetFault). ReadsWholeFile name limit old new (Err f)) (sym is)
    (part_fails name bytes buffer limit old mid new why same stays begins here)
