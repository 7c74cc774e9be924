-- Where a run of a task begins: a store with the files of the task, and two sinks without bytes;
-- and runs that leave all files as they were.
use Rattle.std.specs.Prelude.{ℕ, List, []}
use Rattle.program_shell.specs.declared.status.Status.{Status}
use Rattle.program_shell.specs.Products.{ChangesOnlyFiles}
use Rattle.program_shell.specs.RunViews.{Views, views_of}
use Rattle.task_runs.specs.GrowingSinks.{empty_growing_sink, growing_view}
use Rattle.task_runs.specs.Packing.{FileValue}
use Rattle.task_runs.specs.TaskStores.{store_of, task_store_view}

-- The views before a run over these files.
abbrev pub views_before : List FileValue → Views
views_before files = views_of (task_store_view (store_of files)) (growing_view empty_growing_sink)
    (growing_view empty_growing_sink)

-- Runs with these arguments that end with this status leave all files as they were.
abbrev pub LeavesFilesAlone : (List (List ℕ) → Views → Views → Status → Type 0) → List (List ℕ)
    → Status → Type 0
LeavesFilesAlone Ends words s = (before after : Views) → Ends words before after s
    → ChangesOnlyFiles [] before.store.files after.store.files
