-- What a call returns, put together from what its steps do.
use Rattle.std.proofs.Common.{◌≡◌, ℕ, List, Ok, Err, refl, subst}
use Rattle.design_model.specs.OutOfMemory.{UnlessOutOfMemory}
use Rattle.program_shell.specs.ExitCodes.{exit_number}
use Rattle.program_shell.specs.RunViews.{Views, views_of}
use Rattle.program_shell.specs.declared.status.Status.{Status}
use Rattle.task_runs.specs.Packing.{FileValue, ReplyValue, TaskValue, packed_reply}
use Rattle.task_runs.specs.TaskReading.{task_of}
use Rattle.task_runs.specs.TaskValues.{task_is_out_of_memory}
use Rattle.task_runs.specs.declared.task_fault.TaskFault.{TaskFault}
use Rattle.task_runs.specs.GrowingSinks.{GrowingSinkValue, empty_growing_sink, growing_view}
use Rattle.task_runs.specs.NameLists.{ListsFiles}
use Rattle.task_runs.specs.Outcomes.{IsRunReply, IsReturned, ReturnsOutcome, RunClause}
use Rattle.task_runs.specs.Outcomes.IsReply.{ran, refused}
use Rattle.task_runs.specs.Replies.{changed_files, fault_reply}
use Rattle.task_runs.specs.TaskStores.{TaskStoreValue, files_now, store_of, task_store_view}
use Rattle.task_runs.specs.TaskViews.{views_before}

-- the reply of a run
pub run_reply : (Ends : RunClause) (task : TaskValue) (s : Status) (store : TaskStoreValue) (names : List (List ℕ))
    (out err : GrowingSinkValue) → ListsFiles names (files_now store)
    → Ends task.words (views_before task.files) (views_of (task_store_view store) (growing_view out) (growing_view err)) s
    → IsRunReply Ends task (record {
      outcome = exit_number s;
      out = out.bytes;
      err = err.bytes;
      files = changed_files task.files (files_now store) names;
    })
run_reply Ends task s store names out err listed ends = record {
  status = s;
  after = views_of (task_store_view store) (growing_view out) (growing_view err);
  left = files_now store;
  ends = ends;
  outcome = refl;
  out = refl;
  err = refl;
  store = refl;
  names = names;
  listed = listed;
  files = refl;
}

-- what is packed with some files is packed with equal ones
pub packed_with : (bytes out err : List ℕ) (n : ℕ) (files same : List FileValue)
    → bytes ≡ packed_reply (record { outcome = n; out = out; err = err; files = files }) → files ≡ same
    → bytes ≡ packed_reply (record { outcome = n; out = out; err = err; files = same })
packed_with bytes out err n files same is equal =
    subst (λ (f : List FileValue). bytes ≡ packed_reply (record { outcome = n; out = out; err = err; files = f })) equal is

-- bytes that are returned are those of an equal list
same_returned : (bytes other before after : List ℕ) (count : ℕ) → bytes ≡ other → IsReturned bytes before after count
    → IsReturned other before after count
same_returned bytes other before after count same is = subst (λ (b : List ℕ). IsReturned b before after count) same is

pub ran_outcome : (Ends : RunClause) (request bytes before after : List ℕ) (count : ℕ) (task : TaskValue) (reply : ReplyValue)
    → task_of request ≡ Ok task → IsRunReply Ends task reply → bytes ≡ packed_reply reply
    → IsReturned bytes before after count → ReturnsOutcome Ends request before after count
ran_outcome Ends request bytes before after count task reply read run same returned = record {
  reply = reply;
  is = ran task read run;
  returned = same_returned bytes _ before after count same returned;
}

pub refused_outcome : (Ends : RunClause) (request bytes before after : List ℕ) (count : ℕ) (why : TaskFault)
    → UnlessOutOfMemory (task_is_out_of_memory why) (task_of request ≡ Err why) → bytes ≡ packed_reply (fault_reply why)
    → IsReturned bytes before after count → ReturnsOutcome Ends request before after count
refused_outcome Ends request bytes before after count why cause same returned = record {
  reply = fault_reply why;
  is = refused why cause refl;
  returned = same_returned bytes _ before after count same returned;
}

-- a run begins with the files of its task, and with sinks without bytes
pub same_start : (Ends : RunClause) (words given : List (List ℕ)) (files : List FileValue) (store : TaskStoreValue)
    (out err : GrowingSinkValue) (after : Views) (s : Status) → words ≡ given → store ≡ store_of files → out ≡ empty_growing_sink
    → err ≡ empty_growing_sink → Ends words (views_of (task_store_view store) (growing_view out) (growing_view err)) after s
    → Ends given (views_before files) after s
same_start Ends words given files store out err after s is_words is_store is_out is_err ends =
    let begun = views_of (task_store_view (store_of files)) in
    let sinks = growing_view empty_growing_sink in
    subst (λ (e : GrowingSinkValue). Ends given (begun sinks (growing_view e)) after s) is_err
    (subst (λ (o : GrowingSinkValue). Ends given (begun (growing_view o) (growing_view err)) after s) is_out
    (subst (λ (m : TaskStoreValue). Ends given (views_of (task_store_view m) (growing_view out) (growing_view err)) after s) is_store
    (subst (λ (ws : List (List ℕ)). Ends ws (views_of (task_store_view store) (growing_view out) (growing_view err)) after s) is_words
    ends)))
