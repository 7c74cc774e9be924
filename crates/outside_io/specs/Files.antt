-- Files: the bytes under each name. A store makes its files visible to contracts, or hides them.
use Rattle.std.specs.Prelude.{◌≡◌, ◌≢◌, ℕ, ◌≤◌, Bool, ◌&&◌, nat_le, List, ◌++◌, length, Option, Some, None, IsSome}
use Rattle.outside_io.specs.declared.limits.TheConstants.{MAX_NAME}

-- The content of the file under each name, or none.
abbrev pub Files : Type 0
Files = List ℕ → Option (List ℕ)

-- The bytes are a file name: at least 1 byte, at most MAX_NAME.
pub record IsFileName (name : List ℕ) : Type 0 where
  pub some : 1 ≤ length name
  pub short : length name ≤ MAX_NAME

-- The test whether bytes are a file name.
abbrev pub is_file_name : List ℕ → Bool
is_file_name name = nat_le 1 (length name) && nat_le (length name) MAX_NAME

-- The fact holds of the files, if they are visible.
abbrev pub WhereVisible : Option Files → (Files → Type 0) → Type 0
WhereVisible files P = (visible : Files) → files ≡ Some visible → P visible

-- A file of that name exists, if files are visible.
abbrev pub FileExists : Option Files → List ℕ → Type 0
FileExists files name = WhereVisible files (λ visible. IsSome (visible name))

-- The named file contains these bytes, if files are visible.
abbrev pub FileHolds : Option Files → List ℕ → List ℕ → Type 0
FileHolds files name content = WhereVisible files (λ visible. visible name ≡ Some content)

-- The bytes are appended to the content of the named file, if files are visible.
abbrev pub AppendsToFile : Option Files → Option Files → List ℕ → List ℕ → Type 0
AppendsToFile old new name bytes =
    (content : List ℕ) → FileHolds old name content → FileHolds new name (content ++ bytes)

-- The files are visible, and none has that name.
pub record LacksFile (files : Option Files) (name : List ℕ) : Type 0 where
  pub visible : IsSome files
  pub missing : WhereVisible files (λ visible. visible name ≡ None)

-- Every file except the named one is unchanged. Visible files remain visible, hidden ones hidden.
abbrev pub ChangesOnlyFile : Option Files → Option Files → List ℕ → Type 0
ChangesOnlyFile None None name = Unit {0}
ChangesOnlyFile (Some old) (Some new) name = (other : List ℕ) → other ≢ name → new other ≡ old other
ChangesOnlyFile None (Some new) name = ⊥
ChangesOnlyFile (Some old) None name = ⊥
