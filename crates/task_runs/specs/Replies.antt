-- Replies: what they say of a run, and of a request that can't be run.
use Rattle.std.specs.Prelude.{◌≡◌, ℕ, Bool, false, List, [], ◌∷◌, ◌++◌, Option, Some, None, bytes_eq, codes, if◌then◌else◌}
use Rattle.std.specs.List.{flat_map}
use Rattle.outside_io.specs.Files.{Files}
use Rattle.task_runs.specs.Packing.{FileValue, ReplyValue}
use Rattle.task_runs.specs.declared.task_fault.TaskFault.{TaskFault}
use Rattle.task_runs.specs.declared.task_fault.TaskFault.TheVariants as fault
use Rattle.task_runs.specs.FileLists.{content_in}
use Rattle.task_runs.specs.NameLists.{ListsFiles}

-- The outcomes that are no exit status of a program.
abbrev pub no_task : ℕ
no_task = 100

abbrev pub no_memory : ℕ
no_memory = 101

-- The outcome of a request that has a fault.
abbrev pub fault_outcome : TaskFault → ℕ
fault_outcome fault.Memory = no_memory
fault_outcome other = no_task

-- The text about a fault.
abbrev pub fault_text : TaskFault → List ℕ
fault_text fault.CutOff = codes "cut off"
fault_text fault.NotText = codes "not UTF-8"
fault_text fault.BytesLeft = codes "bytes left"
fault_text fault.Memory = codes "out of memory"

-- The line about a fault, as a run would report it.
abbrev pub fault_line : TaskFault → List ℕ
fault_line why = codes "task: " ++ (fault_text why ++ 10 ∷ [])

-- The reply to a request that has a fault.
abbrev pub fault_reply : TaskFault → ReplyValue
fault_reply why = record {
  outcome = fault_outcome why;
  out = [];
  err = fault_line why;
  files = [];
}

-- The test whether the content that was given for a name is this one.
abbrev pub is_given : Option (List ℕ) → List ℕ → Bool
is_given None content = false
is_given (Some given) content = bytes_eq given content

-- The file of a name, as a list: none if the run left none, or the content that was given.
abbrev pub changed_file : Option (List ℕ) → List ℕ → Option (List ℕ) → List FileValue
changed_file given name None = []
changed_file given name (Some content) = if is_given given content then []
    else (record { name = name; content = content }) ∷ []

-- The files of these names that a run left and that weren't given so, in the order of the names.
abbrev pub changed_files : List FileValue → Files → List (List ℕ) → List FileValue
changed_files given left names =
    flat_map (λ name. changed_file (content_in given name) name (left name)) names

-- The file is one of these files.
abbrev pub IsAmong : FileValue → List FileValue → Type 0
IsAmong file files = (before after : List FileValue) × (before ++ file ∷ after ≡ files)

-- Each file that a run left and that wasn't given so is among those of a list of all names.
abbrev pub EachChangeIsListed : Type 0
EachChangeIsListed = (given : List FileValue) (left : Files) (names : List (List ℕ))
    (name content : List ℕ) → ListsFiles names left → left name ≡ Some content
    → is_given (content_in given name) content ≡ false
    → IsAmong (record { name = name; content = content }) (changed_files given left names)
