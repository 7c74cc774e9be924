-- What no run does: each word of the outcomes of a run is refuted by a wrong view.
use Rattle.std.proofs.Common.{◌≡◌, ◌++◌, ◌∷◌, [], ℕ, suc, List, Option, Some, None, inl, inr, refl, codes, ap, ◌∙◌, sym, subst, arith, true, false}
use Rattle.program_shell.proofs.Names.{Blame, Rose, Files, SinkView, StoreView, Status, PutFailed, with_bytes_put, LacksInput, Plan, accepts, refuses, ChangesOnlyFiles, IsNoneOf, OutputValue, ProductValue, WroteAll, WroteUpTo, output_names, Program, IsDecided, IsDone, IsFault, IsMemory, IsPlannedOutcome, IsRefused, IsUsage, KeepsOtherFiles, RunEnds, IsFaultlessRun, Views, views_of, read_call, AllFilesHold, IsMissingInput, IsOutsideFailure, IsPrintFailure, IsReadFailure, IsWriteFailure, IsFailed, IsReportLost, IsUntouched, status_is_out_of_memory}
use Rattle.program_shell.specs.Plans.{Makes}
use Rattle.program_shell.specs.declared.status.Status.TheVariants as status

-- a sink that took these bytes
abbrev pub took : List ℕ → SinkView
took bytes = record { taken = Some bytes; faults = 0 }

-- a store with these visible files, and as many faults
abbrev pub storing : Files → ℕ → StoreView
storing files faults = record { files = Some files; faults = faults; blame = None }

-- no file, and one content under each name
abbrev pub no_file : Files
no_file = λ name. None

abbrev pub one_byte : Files
one_byte = λ name. Some (7 ∷ [])

-- views that differ
none_taken : (bytes : List ℕ) → took [] ≡ took (1 ∷ bytes) → ⊥
none_taken bytes is = let same : Some [] ≡ Some (1 ∷ bytes) = ap (λ (s : SinkView). s.taken) is in cc

faults_rose : storing no_file 1 ≡ storing no_file 0 → ⊥
faults_rose is = let same : 1 ≡ 0 = ap (λ (s : StoreView). s.faults) is in omega (arith, same)

pub none_is_some : {T : Type 0} (value : T) → None ≡ Some value → ⊥
none_is_some value is = cc

-- two names, and an output under each
abbrev one_name : List ℕ
one_name = 0 ∷ []

abbrev other_name : List ℕ
other_name = 1 ∷ []

abbrev first_output : OutputValue
first_output = record { name = one_name; content = 7 ∷ [] }

abbrev second_output : OutputValue
second_output = record { name = other_name; content = 8 ∷ [] }

-- Untouched files have no new fault, and an untouched standard output took nothing.
pub known_touched_store : (out err : SinkView)
    → IsUntouched (views_of (storing no_file 0) out err) (views_of (storing no_file 1) out err) → ⊥
known_touched_store out err is = faults_rose is.store

pub known_touched_output : (s : StoreView) (err : SinkView)
    → IsUntouched (views_of s (took (1 ∷ [])) err) (views_of s (took []) err) → ⊥
known_touched_output s err is = none_taken [] is.out

-- All outputs are written only if their files hold them afterwards.
pub known_unwritten_output : (before : StoreView) → WroteAll (first_output ∷ []) before (storing no_file 0) → ⊥
known_unwritten_output before is = none_is_some (7 ∷ []) (is.held.0 no_file refl)

-- No other file changes.
b_is_not_a : other_name ≡ one_name → ⊥
b_is_not_a is = cc

pub known_other_output : WroteAll (first_output ∷ []) (storing no_file 0) (storing one_byte 0) → ⊥
known_other_output is = none_is_some (7 ∷ []) (sym (is.others (other_name) (b_is_not_a, tt)))

-- No fault is counted, and none is blamed.
one_is_none : (count : ℕ) → suc count ≡ 0 → ⊥
one_is_none count is = omega (arith, is)

pub known_counted_fault : WroteAll [] (storing no_file 0) (storing no_file 1) → ⊥
known_counted_fault is = one_is_none 0 is.faults

pub known_blamed_fault : (call : Blame) → WroteAll [] (storing no_file 0) (record (storing no_file 0) { blame = Some call }) → ⊥
known_blamed_fault call is = none_is_some call (sym is.blame)

-- A failed write is blamed on its file.
pub known_blameless_write : (outputs : List OutputValue) (name : List ℕ) (before : StoreView)
    → WroteUpTo outputs name before (storing no_file 1) → ⊥
known_blameless_write outputs name before is = none_is_some _ is.fault.blame

-- The file of a failed write is one of the outputs.
appended_some : (done left : List OutputValue) (lost : OutputValue) → done ++ lost ∷ left ≡ [] → ⊥
appended_some [] left lost is = cc
appended_some (o ∷ done) left lost is = cc

only_lost : (done left : List OutputValue) (lost : OutputValue) → done ++ lost ∷ left ≡ first_output ∷ [] → lost.name ≡ one_name
only_lost [] left lost is = let same : lost ≡ first_output = cc in ap (λ (o : OutputValue). o.name) same
only_lost (o ∷ done) left lost is = let none : done ++ lost ∷ left ≡ [] = cc in absurd (appended_some done left lost none)

pub known_foreign_write : (before after : StoreView) → WroteUpTo (first_output ∷ []) (other_name) before after → ⊥
known_foreign_write before after is = b_is_not_a (sym is.same ∙ only_lost is.done is.left is.lost is.split)

-- The outputs before a failed write are written.
first_done : (done left : List OutputValue) (lost : OutputValue) → done ++ lost ∷ left ≡ first_output ∷ second_output ∷ []
    → lost.name ≡ other_name → done ≡ first_output ∷ []
first_done [] left lost is named =
    let same : lost ≡ first_output = cc in
    let a : other_name ≡ one_name = sym named ∙ ap (λ (o : OutputValue). o.name) same in absurd (b_is_not_a a)
first_done (o ∷ []) left lost is named = let same : o ≡ first_output = cc in ap (λ (x : OutputValue). x ∷ []) same
first_done (o ∷ p ∷ done) left lost is named =
    let none : done ++ lost ∷ left ≡ [] = cc in absurd (appended_some done left lost none)

pub known_lost_output : (before : StoreView) (faults : ℕ) (call : Option Blame)
    → WroteUpTo (first_output ∷ second_output ∷ []) (other_name) before (record (storing no_file faults) { blame = call }) → ⊥
known_lost_output before faults call is = unheld is.done (first_done is.done is.left is.lost is.split is.same) is.held
  where
    unheld : (done : List OutputValue) → done ≡ first_output ∷ [] → AllFilesHold (Some no_file) done → ⊥
    unheld done is held = none_is_some (7 ∷ []) ((subst (AllFilesHold (Some no_file)) is held).0 no_file refl)

-- Only the outputs up to a failed write change.
names_of : (done left : List OutputValue) (lost : OutputValue) → done ++ lost ∷ left ≡ first_output ∷ []
    → output_names (done ++ lost ∷ []) ≡ one_name ∷ []
names_of [] left lost is = let same : lost ≡ first_output = cc in ap (λ (o : OutputValue). o.name ∷ []) same
names_of (o ∷ done) left lost is = let none : done ++ lost ∷ left ≡ [] = cc in absurd (appended_some done left lost none)

pub known_changed_by_write : (name : List ℕ) → WroteUpTo (first_output ∷ []) name (storing no_file 0) (storing one_byte 1) → ⊥
known_changed_by_write name is = none_is_some (7 ∷ []) (sym
    ((subst (λ (names : List (List ℕ)). ChangesOnlyFiles names (Some no_file) (Some one_byte))
    (names_of is.done is.left is.lost is.split) is.others) other_name (b_is_not_a, tt)))

-- A missing input leaves all as it is, and is one that the plan reads.
pub known_unread_input : (text name : List ℕ) (before after : Views) → IsMissingInput (refuses text) name before after → ⊥
known_unread_input text name before after is = is.misses.attempted

pub known_touched_by_missing : (plan : Plan) (name : List ℕ) (s : StoreView) (err : SinkView)
    → IsMissingInput plan name (views_of s (took (1 ∷ [])) err) (views_of s (took []) err) → ⊥
known_touched_by_missing plan name s err is = none_taken [] is.untouched.out

-- A failed read is of a file that the plan reads, is blamed on it, and changes nothing else.
pub known_read_not_attempted : (text name : List ℕ) (before after : Views) → IsReadFailure (refuses text) name before after → ⊥
known_read_not_attempted text name before after is = is.attempted

pub known_blameless_read : (plan : Plan) (name : List ℕ) (before : Views) (out err : SinkView)
    → IsReadFailure plan name before (views_of (storing no_file 1) out err) → ⊥
known_blameless_read plan name before out err is = none_is_some (read_call name) is.fault.blame

pub known_changed_by_read : (plan : Plan) (name : List ℕ) (out err : SinkView) (s : StoreView)
    → IsReadFailure plan name (views_of (record s { files = None }) out err) (views_of (record s { files = Some no_file }) out err) → ⊥
known_changed_by_read plan name out err s is = none_is_some no_file (sym is.files)

pub known_printed_by_read : (plan : Plan) (name : List ℕ) (before after : StoreView) (err : SinkView)
    → IsReadFailure plan name (views_of before (took (1 ∷ [])) err) (views_of after (took []) err) → ⊥
known_printed_by_read plan name before after err is = none_taken [] is.out

-- A write fails only of a product that the plan makes, and before the report.
pub known_write_not_made : (text name : List ℕ) (before after : Views) → IsWriteFailure (refuses text) name before after → ⊥
known_write_not_made text name before after is = is.made

pub known_printed_by_write : (plan : Plan) (name : List ℕ) (before after : StoreView) (err : SinkView)
    → IsWriteFailure plan name (views_of before (took (1 ∷ [])) err) (views_of after (took []) err) → ⊥
known_printed_by_write plan name before after err is = none_taken [] is.out

-- What a failed write, and a failed print, leave of the product that the plan makes.
pub known_write_failure : (plan : Plan) (name : List ℕ) (before after : Views) → IsWriteFailure plan name before after
    → (product : ProductValue) × Makes plan before.store.files product
    × WroteUpTo product.outputs name before.store after.store × (after.out ≡ before.out)
known_write_failure plan name before after is = (is.product, is.made, is.wrote, is.out)

pub known_print_failure : (plan : Plan) (before after : Views) → IsPrintFailure plan before after
    → (product : ProductValue) × Makes plan before.store.files product
    × WroteAll product.outputs before.store after.store × PutFailed before.out after.out product.report
known_print_failure plan before after is = (is.product, is.made, is.wrote, is.broke)

-- A print fails only of a report that the plan makes, with a fault, and after all is written.
pub known_print_not_made : (text : List ℕ) (before after : Views) → IsPrintFailure (refuses text) before after → ⊥
known_print_not_made text before after is = is.made

no_fault : Rose 0 0 → ⊥
no_fault (inl more) = omega (arith, more)
no_fault (inr most) = cc

pub known_print_without_fault : (plan : Plan) (before after : StoreView) (bytes more : List ℕ) (err : SinkView)
    → IsPrintFailure plan (views_of before (took bytes) err) (views_of after (took more) err) → ⊥
known_print_without_fault plan before after bytes more err is = no_fault is.broke.rose

pub known_print_before_write : (Is : ProductValue → Type 0) (out out' err : SinkView)
    (is : IsPrintFailure (accepts Is) (views_of (storing no_file 0) out err) (views_of (storing no_file 1) out' err)) → ⊥
known_print_before_write Is out out' err is = one_is_none 0 is.wrote.faults

-- A program of one order.
abbrev pub one_plan : Plan → Program ℕ
one_plan plan = record { name = codes "p"; usage = codes "p"; plan = λ order. plan; outputs = λ order. [] }

-- A run that is done was requested, made a product, wrote it, printed its report, and reported nothing.
pub known_done_for_nothing : (plan : Plan) (before after : Views) → IsDone (one_plan plan) None before after → ⊥
known_done_for_nothing plan before after is = none_is_some is.order is.is_requested

pub known_done_though_refused : (text : List ℕ) (requested : Option ℕ) (before after : Views)
    → IsDone (one_plan (refuses text)) requested before after → ⊥
known_done_though_refused text requested before after is = is.made

pub known_done_with_fault : (plan : Plan) (requested : Option ℕ) (out out' err err' : SinkView)
    → IsDone (one_plan plan) requested (views_of (storing no_file 0) out err) (views_of (storing no_file 1) out' err') → ⊥
known_done_with_fault plan requested out out' err err' is = one_is_none 0 is.wrote.faults

pub known_done_unprinted : (plan : Plan) (requested : Option ℕ) (s s' : StoreView) (err err' : SinkView)
    → IsDone (one_plan plan) requested (views_of s (took (1 ∷ [])) err) (views_of s' (took []) err') → ⊥
known_done_unprinted plan requested s s' err err' is = none_taken is.product.report is.report

pub known_done_with_a_line : (plan : Plan) (requested : Option ℕ) (s s' : StoreView) (out out' : SinkView)
    → IsDone (one_plan plan) requested (views_of s out (took (1 ∷ []))) (views_of s' out' (took [])) → ⊥
known_done_with_a_line plan requested s s' out out' is = none_taken [] is.err

-- A refused run was refused by its plan, touched nothing, and reported.
pub known_refused_though_accepted : (Is : ProductValue → Type 0) (requested : Option ℕ) (before after : Views)
    → IsRefused (one_plan (accepts Is)) requested before after → ⊥
known_refused_though_accepted Is requested before after is = is.cause

pub known_refused_with_output : (plan : Plan) (requested : Option ℕ) (s : StoreView) (err err' : SinkView)
    → IsRefused (one_plan plan) requested (views_of s (took (1 ∷ [])) err) (views_of s (took []) err') → ⊥
known_refused_with_output plan requested s err err' is = none_taken [] is.untouched.out

silent : (text : List ℕ) → took [] ≡ took (112 ∷ text) → ⊥
silent text is = let same : Some [] ≡ Some (112 ∷ text) = ap (λ (s : SinkView). s.taken) is in cc

pub known_refused_in_silence : (plan : Plan) (requested : Option ℕ) (s s' : StoreView) (out out' : SinkView)
    → IsRefused (one_plan plan) requested (views_of s out (took [])) (views_of s' out' (took [])) → ⊥
known_refused_in_silence plan requested s s' out out' is = silent _ is.message

-- The usage text is for arguments that request nothing, and is reported.
pub known_usage_though_requested : (plan : Plan) (order : ℕ) (before after : Views)
    → IsUsage (one_plan plan) (Some order) before after → ⊥
known_usage_though_requested plan order before after is = none_is_some order (sym is.is_requested)

pub known_usage_in_silence : (plan : Plan) (requested : Option ℕ) (s s' : StoreView) (out out' : SinkView)
    → IsUsage (one_plan plan) requested (views_of s out (took [])) (views_of s' out' (took [])) → ⊥
known_usage_in_silence plan requested s s' out out' is = silent _ is.message

-- Out of memory is reported, and touches nothing.
pub known_memory_in_silence : (plan : Plan) (s s' : StoreView) (out out' : SinkView)
    → IsMemory (one_plan plan) (views_of s out (took [])) (views_of s' out' (took [])) → ⊥
known_memory_in_silence plan s s' out out' is = silent _ is.message

pub known_memory_with_output : (plan : Plan) (s : StoreView) (err err' : SinkView)
    → IsMemory (one_plan plan) (views_of s (took (1 ∷ [])) err) (views_of s (took []) err') → ⊥
known_memory_with_output plan s err err' is = none_taken [] is.untouched.out

-- Without a request no file changes.
pub known_changed_for_nothing : (plan : Plan) (s : StoreView) (out out' err err' : SinkView)
    → KeepsOtherFiles (one_plan plan) None (views_of (record s { files = None }) out err)
    (views_of (record s { files = Some no_file }) out' err') → ⊥
known_changed_for_nothing plan s out out' err err' is = none_is_some no_file (sym is)

-- With a request, each file that its order doesn't write is as before, and no file comes into view.
pub known_other_files : (program : Program ℕ) (order : ℕ) (before after : Views) (old new : Files)
    → KeepsOtherFiles program (Some order) (record before { store = storing old 0 }) (record after { store = storing new 0 })
    → (name : List ℕ) → IsNoneOf (program.outputs order) name → new name ≡ old name
known_other_files program order before after old new keeps = keeps

pub known_shown_for_nothing : (plan : Plan) (s : StoreView) (out out' err err' : SinkView)
    → KeepsOtherFiles (one_plan plan) (Some 0) (views_of (record s { files = None }) out err)
    (views_of (record s { files = Some no_file }) out' err') → ⊥
known_shown_for_nothing plan s out out' err err' is = is

-- A run without faults has none in the store and in both streams.
pub known_fault_in_store : (out err : SinkView)
    → IsFaultlessRun (views_of (storing no_file 0) out err) (views_of (storing no_file 1) out err) → ⊥
known_fault_in_store out err is = one_is_none 0 is.store.same

abbrev failed : SinkView
failed = record { taken = None; faults = 1 }

pub known_fault_in_output : (s : StoreView) (err : SinkView) → IsFaultlessRun (views_of s (took []) err) (views_of s failed err) → ⊥
known_fault_in_output s err is = one_is_none 0 is.out.same

pub known_fault_in_error : (s : StoreView) (out : SinkView) → IsFaultlessRun (views_of s out (took [])) (views_of s out failed) → ⊥
known_fault_in_error s out is = one_is_none 0 is.err.same

-- Arguments that request nothing have no other status, and an accepted order isn't refused.
pub known_nothing_done : (plan : Plan) (files : Option Files) → IsDecided (one_plan plan) None files status.Done → ⊥
known_nothing_done plan files is = let same : status.Done ≡ status.Usage = is.usage refl in cc

pub known_accepted_refused : (Is : ProductValue → Type 0) (files : Files)
    → IsDecided (one_plan (accepts Is)) (Some 0) (Some files) status.Refused → ⊥
known_accepted_refused Is files is = let same : status.Refused ≡ status.Done = is.done 0 refl refl tt in cc

pub known_refused_done : (text : List ℕ) (files : Files)
    → IsDecided (one_plan (refuses text)) (Some 0) (Some files) status.Done → ⊥
known_refused_done text files is = let same : status.Done ≡ status.Refused = is.refused 0 text refl refl refl in cc

-- A failed write is blamed on its file.
pub known_unblamed_write : (plan : Plan) (name : List ℕ) (before : Views) (out err : SinkView)
    → IsWriteFailure plan name before (views_of (storing no_file 1) out err) → ⊥
known_unblamed_write plan name before out err is = none_is_some _ is.wrote.fault.blame

-- A failed run was requested, and reported its line.
pub known_failed_for_nothing : (plan : Plan) (before after : Views) → IsFailed (one_plan plan) None before after → ⊥
known_failed_for_nothing plan before after is = none_is_some is.order is.is_requested

pub known_failure : (plan : Plan) (requested : Option ℕ) (before after : Views) (is : IsFailed (one_plan plan) requested before after)
    → IsOutsideFailure (codes "p") plan before after is.line × (after.err ≡ with_bytes_put before.err is.line)
known_failure plan requested before after is = (is.fails, is.message)

-- A report is lost only where the standard error failed.
pub known_lost_report : (plan : Plan) (requested : Option ℕ) (before after : Views)
    (is : IsReportLost (one_plan plan) requested before after)
    → IsPlannedOutcome (one_plan plan) requested before after is.planned is.text × PutFailed before.err after.err is.text
known_lost_report plan requested before after is = (is.calls, is.broke)

pub known_report_lost_without_fault : (plan : Plan) (requested : Option ℕ) (s s' : StoreView) (out out' : SinkView) (bytes more : List ℕ)
    → IsReportLost (one_plan plan) requested (views_of s out (took bytes)) (views_of s' out' (took more)) → ⊥
known_report_lost_without_fault plan requested s s' out out' bytes more is = no_fault is.broke.rose

-- A refused run was requested, and usage touches nothing.
pub known_refused_for_nothing : (plan : Plan) (before after : Views) → IsRefused (one_plan plan) None before after → ⊥
known_refused_for_nothing plan before after is = none_is_some is.order is.is_requested

pub known_usage_with_output : (plan : Plan) (requested : Option ℕ) (s : StoreView) (err err' : SinkView)
    → IsUsage (one_plan plan) requested (views_of s (took (1 ∷ [])) err) (views_of s (took []) err') → ⊥
known_usage_with_output plan requested s err err' is = none_taken [] is.untouched.out

-- An order whose input is missing is not done.
pub known_missing_done : (files : Files) (name : List ℕ) (plan : Plan) → LacksInput plan (Some files) name
    → IsDecided (one_plan plan) (Some 0) (Some files) status.Done → ⊥
known_missing_done files name plan lacks is = let same : status.Done ≡ status.Fault = is.missing 0 name refl lacks in cc

-- Each status has its own outcome.
pub known_ends : (plan : Plan) (requested : Option ℕ) (before after : Views)
    → (RunEnds (one_plan plan) requested before after status.Done → IsDone (one_plan plan) requested before after)
    × (RunEnds (one_plan plan) requested before after status.Refused → IsRefused (one_plan plan) requested before after)
    × (RunEnds (one_plan plan) requested before after status.Usage → IsUsage (one_plan plan) requested before after)
    × (RunEnds (one_plan plan) requested before after status.Fault → IsFault (one_plan plan) requested before after)
    × (RunEnds (one_plan plan) requested before after status.Memory → IsMemory (one_plan plan) before after)
known_ends plan requested before after =
    (λ ends. ends.done refl, λ ends. ends.refused refl, λ ends. ends.usage refl, λ ends. ends.fault refl, λ ends. ends.memory refl)

pub known_run : (plan : Plan) (requested : Option ℕ) (before after : Views) (s : Status) → RunEnds (one_plan plan) requested before after s
    → KeepsOtherFiles (one_plan plan) requested before after
    × (IsFaultlessRun before after → IsDecided (one_plan plan) requested before.store.files s)
known_run plan requested before after s ends = (ends.others, ends.decided)

-- out of memory alone may stand for what was planned
pub known_excused : (status_is_out_of_memory status.Done ≡ false) × (status_is_out_of_memory status.Refused ≡ false)
    × (status_is_out_of_memory status.Usage ≡ false) × (status_is_out_of_memory status.Fault ≡ false)
    × (status_is_out_of_memory status.Memory ≡ true)
known_excused = (refl, refl, refl, refl, refl)
