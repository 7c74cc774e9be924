-- What a call returns: the packed reply, and how many bytes it has. The reply is that of a run of
-- the task, or names what is wrong with the request. What a run guarantees is the program's own
-- statement (`Ends`), of the arguments, the views before and after the run, and its exit status.
use Rattle.std.specs.Prelude.{◌≡◌, ℕ, ◌<◌, ◌≤◌, List, ◌++◌, length, drop, Ok, Err, Some}
use Rattle.design_model.specs.OutOfMemory.{UnlessOutOfMemory}
use Rattle.outside_io.specs.Files.{Files}
use Rattle.program_shell.specs.declared.status.Status.{Status}
use Rattle.program_shell.specs.ExitCodes.{exit_number}
use Rattle.program_shell.specs.RunViews.{Views}
use Rattle.task_runs.specs.declared.task_fault.TaskFault.{TaskFault}
use Rattle.task_runs.specs.Packing.{ReplyValue, TaskValue, packed_reply}
use Rattle.task_runs.specs.TaskReading.{task_of}
use Rattle.task_runs.specs.TaskValues.{task_is_out_of_memory}
use Rattle.task_runs.specs.NameLists.{ListsFiles}
use Rattle.task_runs.specs.Replies.{changed_files, fault_reply}
use Rattle.task_runs.specs.TaskViews.{views_before}

-- The statement of a program about its runs.
abbrev pub RunClause : Type 1
RunClause = List (List ℕ) → Views → Views → Status → Type 0

-- The reply of a run of a task: the exit status, all bytes that the two sinks took, and each file
-- that the store has now and the task hadn't so.
pub record IsRunReply (Ends : RunClause) (task : TaskValue) (reply : ReplyValue) : Type 0 where
  pub status : Status
  pub after : Views
  pub left : Files
  pub ends : Ends task.words (views_before task.files) after status
  pub outcome : reply.outcome ≡ exit_number status
  pub out : after.out.taken ≡ Some reply.out
  pub err : after.err.taken ≡ Some reply.err
  pub store : after.store.files ≡ Some left
  pub names : List (List ℕ)
  pub listed : ListsFiles names left
  pub files : reply.files ≡ changed_files task.files left names

-- The reply to a request: bytes that are a task are run, and others are refused with their first
-- fault. There may be no memory for it.
pub data IsReply (Ends : RunClause) (request : List ℕ) (reply : ReplyValue) : Type 0 where
  ran : (task : TaskValue) → task_of request ≡ Ok task → IsRunReply Ends task reply
      → IsReply Ends request reply
  refused : (why : TaskFault)
      → UnlessOutOfMemory (task_is_out_of_memory why) (task_of request ≡ Err why)
      → reply ≡ fault_reply why → IsReply Ends request reply

-- Bytes that are returned in a buffer: they are at its beginning if there is room, and else the
-- buffer is unchanged. The number of the bytes is returned in both cases.
pub record IsReturned (bytes before after : List ℕ) (count : ℕ) : Type 0 where
  pub number : count ≡ length bytes
  pub written : length bytes ≤ length before → after ≡ bytes ++ drop (length bytes) before
  pub short : length before < length bytes → after ≡ before

-- The outcome of a call: a reply to the request, returned packed in the buffer.
pub record ReturnsOutcome (Ends : RunClause) (request before after : List ℕ) (count : ℕ) : Type 0
  where
    pub reply : ReplyValue
    pub is : IsReply Ends request reply
    pub returned : IsReturned (packed_reply reply) before after count
