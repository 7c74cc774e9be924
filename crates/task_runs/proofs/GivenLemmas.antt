-- The names of files that were given are listed, and so are those of all files of a store.
use Rattle.std.proofs.Common.{refl, sym, subst, ◌≡◌, ℕ, false, ◌∷◌, List, None}
use Rattle.outside_io.specs.Files.{Files}
use Rattle.task_runs.proofs.RoomListLemmas.{lacks_more, lists_files}
use Rattle.task_runs.specs.FileLists.{content_after, content_in}
use Rattle.task_runs.specs.NameLists.{ListsFiles, ListsRooms, is_listed, with_name}
use Rattle.task_runs.specs.Packing.{FileValue}
use Rattle.task_runs.specs.TaskStores.{TaskStoreValue, files_now}

-- whatever names are listed more
pub lists_with_name : (names more : List (List ℕ)) (name : List ℕ) (files : Files) → more ≡ with_name names name
    → ListsFiles names files → ListsFiles more files
lists_with_name names more name files is lists = subst (λ (m : List (List ℕ)). ListsFiles m files) (sym is)
    (λ other lacks. lists other (lacks_more names name other lacks).0)

-- a name that isn't listed so far has the content that the files left give it
abbrev pub ListsBefore : List FileValue → List (List ℕ) → List FileValue → Type 0
ListsBefore files names left = (name : List ℕ) → is_listed names name ≡ false → content_in files name ≡ content_after None left name

-- one more file was listed
pub lists_next : (files before : List FileValue) (names more : List (List ℕ)) (file : FileValue) (left : List FileValue)
    → ListsBefore files names before → before ≡ file ∷ left → more ≡ with_name names file.name → ListsBefore files more left
lists_next files before names more file left lists at is = subst (λ (m : List (List ℕ)). ListsBefore files m left) (sym is)
    (λ name lacks. let both = lacks_more names file.name name lacks in rw (at, both.1) at (lists name both.0))

-- all files of a store
pub lists_now : (names : List (List ℕ)) (store : TaskStoreValue) → ListsRooms names store.written
    → ListsFiles names (content_in store.given) → ListsFiles names (files_now store)
lists_now names store rooms given name lacks = rw (lists_files names store.written rooms name lacks, given name lacks) refl
