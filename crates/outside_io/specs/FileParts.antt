-- Reading a file part by part.
use Rattle.std.specs.Prelude.{◌≡◌, ℕ, ◌+◌, ◌≤◌, List, ◌++◌, length, take, Option, Some, Result, Ok, Err}
use Rattle.outside_io.specs.declared.whole_files.GetFault.{GetFault}
use Rattle.outside_io.specs.declared.whole_files.GetFault.TheVariants as fault
use Rattle.outside_io.specs.Blames.{read_call}
use Rattle.outside_io.specs.Causes.{CallFailed, IsFileLonger, HasNoNewFault}
use Rattle.outside_io.specs.Files.{Files, FileHolds, LacksFile, WhereVisible}
use Rattle.outside_io.specs.Views.{StoreView}

-- The bytes are a prefix of a content, if there is one.
abbrev pub IsContentPrefix : Option (List ℕ) → List ℕ → Type 0
IsContentPrefix file bytes = (content : List ℕ) → file ≡ Some content
    → bytes ≡ take (length bytes) content

-- The bytes are a prefix of the named file, if files are visible.
abbrev pub IsFilePrefix : Option Files → List ℕ → List ℕ → Type 0
IsFilePrefix files name bytes = WhereVisible files (λ visible. IsContentPrefix (visible name) bytes)

-- The next part of a file: the first `count` bytes of the buffer follow the bytes before. A count
-- of 0 means that the bytes before are the entire file.
pub record IsNextPart (files : Option Files) (name before buffer : List ℕ)
    (count : ℕ) : Type 0 where
  pub on : IsFilePrefix files name (before ++ take count buffer)
  pub end : count ≡ 0 → FileHolds files name before

-- The results of reading the next part of a file at an offset, whatever was read before.
abbrev pub ReadsNextPart : List ℕ → (at limit : ℕ) → StoreView → StoreView → List ℕ
    → Result ℕ GetFault → Type 0
ReadsNextPart name at limit old new buffer (Ok count) = HasNoNewFault old new × (at + count ≤ limit)
    × (count ≤ length buffer)
    × ((before : List ℕ) → length before ≡ at → IsFilePrefix old.files name before
    → IsNextPart old.files name before buffer count)
ReadsNextPart name at limit old new buffer (Err fault.Missing) = LacksFile old.files name
    × HasNoNewFault old new
ReadsNextPart name at limit old new buffer (Err fault.Failed) = CallFailed old new (read_call name)
ReadsNextPart name at limit old new buffer (Err fault.TooLong) = HasNoNewFault old new
    × ((before : List ℕ) → length before ≡ at → IsFilePrefix old.files name before
    → WhereVisible old.files (λ visible. IsFileLonger (visible name) limit))
ReadsNextPart name at limit old new buffer (Err fault.Memory) = HasNoNewFault old new
