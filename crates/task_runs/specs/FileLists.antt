-- Lists of files with names: the content of a name.
use Rattle.std.specs.Prelude.{ℕ, List, [], ◌∷◌, Option, Some, None, bytes_eq, if◌then◌else◌}
use Rattle.task_runs.specs.Packing.{FileValue}

-- The content of a name after these files were set, if it had that content before.
abbrev pub content_after : Option (List ℕ) → List FileValue → List ℕ → Option (List ℕ)
content_after before [] name = before
content_after before (file ∷ rest) name =
    content_after (if bytes_eq file.name name then Some file.content else before) rest name

-- The content of a name among files: of two files with one name the later counts.
abbrev pub content_in : List FileValue → List ℕ → Option (List ℕ)
content_in files name = content_after None files name
