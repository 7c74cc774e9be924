-- Lists of names: those that a store in memory may have a file or room for.
use Rattle.std.specs.Prelude.{◌≡◌, ℕ, Bool, false, List, [], ◌∷◌, ◌++◌, None, bytes_eq, if◌then◌else◌}
use Rattle.std.specs.List.{list_any}
use Rattle.outside_io.specs.Files.{Files}
use Rattle.outside_io.specs.MemStores.{MemStoreValue, rooms_of}

-- The test whether a list has a name.
abbrev pub is_listed : List (List ℕ) → List ℕ → Bool
is_listed names name = list_any (λ other. bytes_eq other name) names

-- The names with one more, unless the list has it.
abbrev pub with_name : List (List ℕ) → List ℕ → List (List ℕ)
with_name names name = if is_listed names name then names else names ++ name ∷ []

-- The list has each name that a store has room for.
abbrev pub ListsRooms : List (List ℕ) → MemStoreValue → Type 0
ListsRooms names store = (name : List ℕ) → is_listed names name ≡ false → rooms_of store name ≡ None

-- The list has each name that has a file.
abbrev pub ListsFiles : List (List ℕ) → Files → Type 0
ListsFiles names files = (name : List ℕ) → is_listed names name ≡ false → files name ≡ None
