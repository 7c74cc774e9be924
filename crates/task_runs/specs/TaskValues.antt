-- Tasks of the code as values, and results of reading them.
use Rattle.std.specs.Prelude.{◌≡◌, Bool, true, false, List, ◌++◌, map, Result, Ok, Err, string_bytes}
use Rattle.design_model.specs.OutOfMemory.{UnlessOutOfMemory}
use Rattle.task_runs.specs.declared.task.Task.{Task}
use Rattle.task_runs.specs.declared.task.TaskFile.{TaskFile}
use Rattle.task_runs.specs.declared.task_fault.TaskFault.{TaskFault}
use Rattle.task_runs.specs.declared.task_fault.TaskFault.TheVariants as fault
use Rattle.task_runs.specs.Packing.{FileValue, TaskValue}
use Rattle.task_runs.specs.TaskReading.{Read}

-- The name and content of a file of a task.
abbrev pub file_value : TaskFile → FileValue
file_value file = record { name = file.name.now; content = file.content.now }

-- The arguments and files of a task.
abbrev pub task_value : Task → TaskValue
task_value task = record {
  words = map string_bytes task.words;
  files = map file_value task.files;
}

-- The test whether a fault means out of memory.
abbrev pub task_is_out_of_memory : TaskFault → Bool
task_is_out_of_memory fault.Memory = true
task_is_out_of_memory other = false

-- A result that has the specified value, seen so, or the specified fault, or is out of memory.
abbrev pub IsReadAs : {A V : Type 0} → (A → V) → Result V TaskFault → Result A TaskFault → Type 0
IsReadAs seen said (Ok a) = said ≡ Ok (seen a)
IsReadAs seen said (Err why) = UnlessOutOfMemory (task_is_out_of_memory why) (said ≡ Err why)

-- Items that were read, with others before them.
abbrev pub joined : {T : Type 0} → List T → Result (Read (List T)) TaskFault
    → Result (Read (List T)) TaskFault
joined before (Ok read) = Ok (record { value = before ++ read.value; rest = read.rest })
joined before (Err why) = Err why
