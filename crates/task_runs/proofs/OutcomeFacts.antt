-- Worked values of where a run begins, of replies and of what is returned, by hand.
use Rattle.std.proofs.Common.{◌≡◌, ℕ, [], ◌∷◌, ◌++◌, List, Option, None, Some, ◌⊎◌, true, arith, inl, inr, refl, subst, sym}
use Rattle.program_shell.specs.declared.status.Status.TheVariants as status
use Rattle.program_shell.specs.declared.status.Status.{Status}
use Rattle.program_shell.specs.ExitCodes.{exit_number}
use Rattle.program_shell.specs.RunViews.{Views}
use Rattle.outside_io.specs.Files.{Files}
use Rattle.task_runs.specs.declared.task_fault.TaskFault.TheVariants as fault
use Rattle.task_runs.specs.Packing.{FileValue, ReplyValue, TaskValue, packed_reply, packed_task}
use Rattle.task_runs.specs.NameLists.{ListsFiles, is_listed, with_name}
use Rattle.task_runs.specs.Outcomes.{IsReply, IsReturned, IsRunReply, RunClause}
use Rattle.task_runs.specs.Outcomes.IsReply.{ran, refused}
use Rattle.task_runs.specs.Replies.{IsAmong, changed_files, fault_reply}
use Rattle.task_runs.specs.FileLists.{content_in}
use Rattle.task_runs.specs.TaskStores.{files_now, store_of}
use Rattle.task_runs.specs.TaskViews.{LeavesFilesAlone, views_before}

-- files `a` with 1, `b` with 2, and `a` with 3
abbrev given : List FileValue
given = record { name = 97 ∷ []; content = 1 ∷ [] } ∷ record { name = 98 ∷ []; content = 2 ∷ [] }
    ∷ record { name = 97 ∷ []; content = 3 ∷ [] } ∷ []

-- of two files with one name the later counts
pub known_contents : (content_in given (97 ∷ []) ≡ Some (3 ∷ [])) × ((content_in given (98 ∷ []) ≡ Some (2 ∷ []))
    × (content_in given (99 ∷ []) ≡ None))
known_contents = (refl, (refl, refl))

-- files after a run: `a` with 1, `b` with 2 and `c` with 4
abbrev left : Files
left = files_now (store_of (record { name = 97 ∷ []; content = 1 ∷ [] } ∷ record { name = 98 ∷ []; content = 2 ∷ [] }
    ∷ record { name = 99 ∷ []; content = 4 ∷ [] } ∷ []))

-- of the names `c`, `d`, `b` and `a` two have a file that wasn't given so
pub known_changed_files : changed_files given left ((99 ∷ []) ∷ (100 ∷ []) ∷ (98 ∷ []) ∷ (97 ∷ []) ∷ [])
    ≡ record { name = 99 ∷ []; content = 4 ∷ [] } ∷ record { name = 97 ∷ []; content = 1 ∷ [] } ∷ []
known_changed_files = refl

-- the replies to requests that can't be run
pub known_fault_replies : (packed_reply (fault_reply fault.CutOff)
    ≡ 100 ∷ 0 ∷ 0 ∷ 0 ∷ 0 ∷ 0 ∷ 0 ∷ 0 ∷ 14 ∷ 0 ∷ 0 ∷ 0
    ∷ 116 ∷ 97 ∷ 115 ∷ 107 ∷ 58 ∷ 32 ∷ 99 ∷ 117 ∷ 116 ∷ 32 ∷ 111 ∷ 102 ∷ 102 ∷ 10 ∷ 0 ∷ 0 ∷ 0 ∷ 0 ∷ [])
    × ((packed_reply (fault_reply fault.NotText)
    ≡ 100 ∷ 0 ∷ 0 ∷ 0 ∷ 0 ∷ 0 ∷ 0 ∷ 0 ∷ 16 ∷ 0 ∷ 0 ∷ 0
    ∷ 116 ∷ 97 ∷ 115 ∷ 107 ∷ 58 ∷ 32 ∷ 110 ∷ 111 ∷ 116 ∷ 32 ∷ 85 ∷ 84 ∷ 70 ∷ 45 ∷ 56 ∷ 10 ∷ 0 ∷ 0 ∷ 0 ∷ 0 ∷ [])
    × ((packed_reply (fault_reply fault.BytesLeft)
    ≡ 100 ∷ 0 ∷ 0 ∷ 0 ∷ 0 ∷ 0 ∷ 0 ∷ 0 ∷ 17 ∷ 0 ∷ 0 ∷ 0
    ∷ 116 ∷ 97 ∷ 115 ∷ 107 ∷ 58 ∷ 32 ∷ 98 ∷ 121 ∷ 116 ∷ 101 ∷ 115 ∷ 32 ∷ 108 ∷ 101 ∷ 102 ∷ 116 ∷ 10 ∷ 0 ∷ 0 ∷ 0 ∷ 0 ∷ [])
    × (packed_reply (fault_reply fault.Memory)
    ≡ 101 ∷ 0 ∷ 0 ∷ 0 ∷ 0 ∷ 0 ∷ 0 ∷ 0 ∷ 20 ∷ 0 ∷ 0 ∷ 0
    ∷ 116 ∷ 97 ∷ 115 ∷ 107 ∷ 58 ∷ 32 ∷ 111 ∷ 117 ∷ 116 ∷ 32 ∷ 111 ∷ 102 ∷ 32 ∷ 109 ∷ 101 ∷ 109 ∷ 111 ∷ 114 ∷ 121 ∷ 10
    ∷ 0 ∷ 0 ∷ 0 ∷ 0 ∷ [])))
known_fault_replies = (refl, (refl, (refl, refl)))

-- bytes that fit are at the beginning of the buffer, which is else unchanged; their number is known in both cases
pub returned_where_it_fits : (after : List ℕ) (count : ℕ) → IsReturned (1 ∷ 2 ∷ []) (7 ∷ 8 ∷ 9 ∷ []) after count
    → (count ≡ 2) × (after ≡ 1 ∷ 2 ∷ 9 ∷ [])
returned_where_it_fits after count is = (is.number, is.written (omega arith))

pub unchanged_where_short : (after : List ℕ) (count : ℕ) → IsReturned (1 ∷ 2 ∷ []) (7 ∷ []) after count
    → (count ≡ 2) × (after ≡ 7 ∷ [])
unchanged_where_short after count is = (is.number, is.short (omega arith))

-- a task of the argument `c`, without files, and the views after a run of it
abbrev task : TaskValue
task = record { words = (99 ∷ []) ∷ []; files = [] }

abbrev after_run : Views
after_run = record {
  store = record { files = Some left; faults = 0; blame = None };
  out = record { taken = Some (5 ∷ []); faults = 0 };
  err = record { taken = Some (6 ∷ []); faults = 0 };
}

-- a program that ends so, and is done, where it begins as it should
abbrev Ends : RunClause
Ends words before after s = ((words ≡ task.words) × (before ≡ views_before [])) × ((after ≡ after_run) × (s ≡ status.Refused))

same_bytes : (a b : List ℕ) → Some a ≡ Some b → a ≡ b
same_bytes a b is = cc

same_files : (f g : Files) → Some f ≡ Some g → f ≡ g
same_files f g is = cc

-- there is one reply to that task: each of its parts is known
pub known_outcome : (reply : ReplyValue) → IsRunReply Ends task reply → reply.outcome ≡ 1
known_outcome reply is = rw (is.outcome, is.ends.1.1) refl

pub known_out : (reply : ReplyValue) → IsRunReply Ends task reply → reply.out ≡ 5 ∷ []
known_out reply is = sym (same_bytes _ _ (subst (λ (v : Views). v.out.taken ≡ Some reply.out) is.ends.1.0 is.out))

pub known_err : (reply : ReplyValue) → IsRunReply Ends task reply → reply.err ≡ 6 ∷ []
known_err reply is = sym (same_bytes _ _ (subst (λ (v : Views). v.err.taken ≡ Some reply.err) is.ends.1.0 is.err))

pub known_files : (reply : ReplyValue) → IsRunReply Ends task reply → (names : List (List ℕ)) × ListsFiles names left
    × (reply.files ≡ changed_files [] left names)
known_files reply is =
    let same = same_files _ _ (subst (λ (v : Views). v.store.files ≡ Some is.left) is.ends.1.0 is.store) in (
      is.names,
      subst (λ (f : Files). ListsFiles is.names f) (sym same) is.listed,
      subst (λ (f : Files). reply.files ≡ changed_files [] f is.names) (sym same) is.files,
    )

-- a run that leaves a file where there was none doesn't leave the files alone, and one that never ends so does
pub known_left_alone : (LeavesFilesAlone Ends task.words status.Refused → ⊥) × LeavesFilesAlone Ends task.words status.Done
known_left_alone = (refuted, λ before after runs. never runs.1.1)
  where
    refuted : LeavesFilesAlone Ends task.words status.Refused → ⊥
    refuted alone = let same : ◌≡◌ {A = Option (List ℕ)} (Some (1 ∷ [])) None =
        alone (views_before []) after_run ((refl, refl), (refl, refl)) (97 ∷ []) tt in absurd (cc)

    never : {A : Type 0} → status.Done ≡ status.Refused → A
    never is = absurd (cc)

-- a list without a name that has a file doesn't list the files
pub known_lists : (ListsFiles ((97 ∷ []) ∷ (99 ∷ []) ∷ []) left → ⊥) × (is_listed ((97 ∷ []) ∷ (99 ∷ []) ∷ []) (99 ∷ []) ≡ true)
    × (with_name ((97 ∷ []) ∷ []) (97 ∷ []) ≡ (97 ∷ []) ∷ []) × (with_name ((97 ∷ []) ∷ []) (98 ∷ []) ≡ (97 ∷ []) ∷ (98 ∷ []) ∷ [])
known_lists = (λ lists. let none = lists (98 ∷ []) refl in absurd (cc), refl, refl, refl)

-- no file is among none
pub known_among : (file : FileValue) → IsAmong file [] → ⊥
known_among file is = nowhere is.0 is.1 is.2
  where
    nowhere : (before after : List FileValue) → before ++ file ∷ after ≡ [] → ⊥
    nowhere [] after is = absurd (cc)
    nowhere (first ∷ rest) after is = absurd (cc)

-- before a run nothing is printed or reported, and no fault is counted
pub known_views : ((views_before given).out ≡ record { taken = Some []; faults = 0 })
    × ((views_before given).err ≡ record { taken = Some []; faults = 0 }) × ((views_before given).store.faults ≡ 0)
    × ((views_before given).store.files ≡ Some (files_now (store_of given)))
known_views = (refl, refl, refl, refl)

-- bytes that are no task have the reply about their first fault, or that about memory
pub known_refusal : (reply : ReplyValue) → IsReply Ends [] reply
    → (reply ≡ fault_reply fault.CutOff) ⊎ (reply ≡ fault_reply fault.Memory)
known_refusal reply (ran found read run) = absurd (cc)
known_refusal reply (refused fault.CutOff cause is) = inl is
known_refusal reply (refused fault.NotText cause is) = absurd (cc)
known_refusal reply (refused fault.BytesLeft cause is) = absurd (cc)
known_refusal reply (refused fault.Memory cause is) = inr is

-- a task without arguments and files has the reply of its run, or that about memory
abbrev nothing : TaskValue
nothing = record { words = []; files = [] }

pub known_run : (reply : ReplyValue) → IsReply Ends (packed_task nothing) reply
    → IsRunReply Ends nothing reply ⊎ (reply ≡ fault_reply fault.Memory)
known_run reply (ran found read run) = let same : nothing ≡ found = cc in
    inl (subst (λ (t : TaskValue). IsRunReply Ends t reply) (sym same) run)
known_run reply (refused fault.CutOff cause is) = absurd (cc)
known_run reply (refused fault.NotText cause is) = absurd (cc)
known_run reply (refused fault.BytesLeft cause is) = absurd (cc)
known_run reply (refused fault.Memory cause is) = inr is

-- the run of a reply: its status, and the views after it, are what the program states
pub known_run_parts : (Clause : RunClause) (given : TaskValue) (reply : ReplyValue) → IsRunReply Clause given reply
    → (s : Status) × (after : Views) × Clause given.words (views_before given.files) after s × (reply.outcome ≡ exit_number s)
known_run_parts Clause given reply is = (is.status, is.after, is.ends, is.outcome)
