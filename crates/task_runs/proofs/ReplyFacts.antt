-- Worked values of tasks and replies, and what the relations on them exclude.
use Rattle.std.proofs.Common.{◌≡◌, ◌≢◌, ◌∙◌, ℕ, false, List, length, [], ◌∷◌, Option, Some, None, Result, Ok, Err, map, string_bytes, refl, sym}
use Rattle.outside_io.specs.Files.{Files}
use Rattle.outside_io.specs.Blames.{FaultLogValue, no_faults}
use Rattle.outside_io.specs.MemStores.{empty_store, file_set, room_raised}
use Rattle.task_runs.specs.GrowingSinks.{growing_view}
use Rattle.task_runs.specs.NameLists.{ListsFiles, ListsRooms}
use Rattle.task_runs.specs.Outcomes.{IsReply, IsReturned, ReturnsOutcome, RunClause}
use Rattle.task_runs.specs.Packing.{FileValue, ReplyValue, packed_reply}
use Rattle.task_runs.specs.Replies.{EachChangeIsListed, IsAmong, changed_files, is_given}
use Rattle.task_runs.specs.TaskReading.{Read}
use Rattle.task_runs.specs.TaskValues.{IsReadAs, file_value, joined, task_value}
use Rattle.task_runs.specs.FileLists.{content_in}
use Rattle.task_runs.specs.TaskStores.{KeepsFiles, StoreHasTheFiles, TaskStoreValue, files_now, store_of, task_store_view}
use Rattle.task_runs.specs.declared.task.Task.{Task}
use Rattle.task_runs.specs.declared.task_fault.TaskFault.{TaskFault}
use Rattle.task_runs.specs.declared.task_fault.TaskFault.TheVariants as fault
use Rattle.task_runs.specs.declared.task.TaskFile.{TaskFile}

abbrev a : List ℕ
a = 97 ∷ []

abbrev b : List ℕ
b = 98 ∷ []

-- a store with room for the name `b` alone: a list without it doesn't list the rooms
pub known_rooms : ListsRooms (a ∷ []) (room_raised empty_store b 3) → ⊥
known_rooms lists = let none : ◌≡◌ {A = Option ℕ} (Some 3) None = lists b refl in absurd (cc)

-- a task as contracts see it
pub known_task : (task : Task) (file : TaskFile) → ((task_value task).words ≡ map string_bytes task.words)
    × ((task_value task).files ≡ map file_value task.files)
    × (file_value file ≡ record { name = file.name.now; content = file.content.now })
known_task task file = (refl, refl, refl)

-- what is read is seen so, and has no other fault than its own, unless it is out of memory
abbrev Reads : Result ℕ TaskFault → Result (List ℕ) TaskFault → Type 0
Reads said result = IsReadAs (λ (bytes : List ℕ). length bytes) said result

pub known_read : Reads (Ok 2) (Ok (7 ∷ 8 ∷ [])) × (Reads (Ok 3) (Ok (7 ∷ 8 ∷ [])) → ⊥) × (Reads (Ok 2) (Err fault.CutOff) → ⊥)
    × (Reads (Err fault.NotText) (Err fault.CutOff) → ⊥) × Reads (Ok 2) (Err fault.Memory)
known_read = (refl, λ is. other is, λ is. cut_off is, λ is. fault_is is, tt)
  where
    other : ◌≡◌ {A = Result ℕ TaskFault} (Ok 3) (Ok 2) → ⊥
    other is = cc

    cut_off : ◌≡◌ {A = Result ℕ TaskFault} (Ok 2) (Err fault.CutOff) → ⊥
    cut_off is = cc

    fault_is : ◌≡◌ {A = Result ℕ TaskFault} (Err fault.NotText) (Err fault.CutOff) → ⊥
    fault_is is = cc

-- items with others before them, and the bytes that are left
abbrev items : List ℕ → Result (Read (List ℕ)) TaskFault
items value = Ok (record { value = value; rest = 5 ∷ [] })

pub known_joined : (joined {T = ℕ} (1 ∷ 2 ∷ []) (items (3 ∷ [])) ≡ items (1 ∷ 2 ∷ 3 ∷ []))
    × (joined {T = ℕ} (1 ∷ []) (Err fault.CutOff) ≡ Err fault.CutOff)
known_joined = (refl, refl)

-- the store of files has the later of two with one name, and no other file
abbrev twice : List FileValue
twice = record { name = a; content = 1 ∷ [] } ∷ record { name = a; content = 3 ∷ [] } ∷ []

pub refuted_earlier_file : StoreHasTheFiles → files_now (store_of twice) a ≡ Some (1 ∷ []) → ⊥
refuted_earlier_file law is = let same : ◌≡◌ {A = Option (List ℕ)} (Some (3 ∷ [])) (Some (1 ∷ [])) = sym (law twice a) ∙ is in absurd (cc)

pub applied_files : StoreHasTheFiles → (files : List FileValue) (name : List ℕ) (other : Option (List ℕ))
    → other ≢ content_in files name → files_now (store_of files) name ≡ other → ⊥
applied_files law files name other differ is = differ (sym is ∙ law files name)

-- a file that a run left is in the reply, where its name is listed and it wasn't given so
pub refuted_unlisted : EachChangeIsListed → (given : List FileValue) (left : Files) (names : List (List ℕ)) (name content : List ℕ)
    → ListsFiles names left → left name ≡ Some content → is_given (content_in given name) content ≡ false
    → (IsAmong (record { name = name; content = content }) (changed_files given left names) → ⊥) → ⊥
refuted_unlisted law given left names name content lists is changed never = never (law given left names name content lists is changed)

-- what a sink was given and its faults, as contracts see them
pub known_sink : growing_view (record { bytes = 6 ∷ 7 ∷ []; faults = 2 }) ≡ record { taken = Some (6 ∷ 7 ∷ []); faults = 2 }
known_sink = refl

-- what a call returns is a reply to the request, packed
pub known_outcome_returned : (Ends : RunClause) (request before after : List ℕ) (count : ℕ) → ReturnsOutcome Ends request before after count
    → (reply : ReplyValue) × IsReply Ends request reply × IsReturned (packed_reply reply) before after count
known_outcome_returned Ends request before after count returns = (returns.reply, returns.is, returns.returned)

-- files `a` with 1, which was given, and with 2, which was written since, and one fault that isn't blamed
abbrev once : List FileValue
once = record { name = a; content = 1 ∷ [] } ∷ []

abbrev faults : FaultLogValue
faults = record { count = 1; last = None }

abbrev kept : TaskStoreValue
kept = record { given = once; written = empty_store; log = faults }

abbrev changed : TaskStoreValue
changed = record { given = once; written = file_set empty_store a (2 ∷ []); log = faults }

-- what is written counts before what was given, and other names have no file
pub known_files_now : (files_now kept a ≡ Some (1 ∷ [])) × (files_now changed a ≡ Some (2 ∷ [])) × (files_now changed b ≡ None)
    × ((task_store_view changed).faults ≡ 1) × ((task_store_view changed).blame ≡ None)
    × ((task_store_view changed).files ≡ Some (files_now changed)) × ((store_of once).log ≡ no_faults)
    × (files_now (store_of once) a ≡ Some (1 ∷ []))
known_files_now = (refl, refl, refl, refl, refl, refl, refl, refl)

-- what was written isn't what was given
pub refuted_keeps : KeepsFiles kept changed → ⊥
refuted_keeps is = let same : ◌≡◌ {A = Option (List ℕ)} (Some (2 ∷ [])) (Some (1 ∷ [])) = is.files a in absurd (cc)

pub known_keeps : (old new : TaskStoreValue) → KeepsFiles old new → (new.log ≡ old.log)
    × ((other : List ℕ) → files_now new other ≡ files_now old other)
known_keeps old new is = (is.log, is.files)
