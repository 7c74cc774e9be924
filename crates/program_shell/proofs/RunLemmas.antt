-- The outcome of a run, told apart by status.
use Rattle.std.proofs.Common.{◌≡◌, ◌∙◌, ℕ, inl, inr, List, Option, Some, None, refl, subst, sym}
use Rattle.program_shell.proofs.Names.{Failure, Status, IsSoundProgram, cannot_print_line, cannot_read_line, cannot_write_line, message_line, out_of_memory_line, Makes, ProductValue, Program, ReportsLineWithStatus, IsPlannedOutcome, IsDone, IsFault, IsMemory, IsRefused, IsUsage, RunEnds, Views, Delivers, failure_line, all, but_report, up_to, IsFailureOf, status_of, missing, not_read, not_written, unprinted, failed, memory, refused, usage}
use Rattle.program_shell.specs.declared.failure.Failure.TheVariants as failure
use Rattle.program_shell.specs.declared.status.Status.TheVariants as status
use Rattle.program_shell.proofs.DecisionLemmas.{decided}
use Rattle.program_shell.proofs.KeepLemmas.{keeps_others}
use Rattle.program_shell.proofs.RunOutcomes.{IsRunOutcome, halted, made}

-- What each status means.
abbrev Means : {Order : Type 0} → Program Order → Option Order → Views → Views → Status → Type 0
Means program requested before after status.Done = IsDone program requested before after
Means program requested before after status.Refused = IsRefused program requested before after
Means program requested before after status.Usage = IsUsage program requested before after
Means program requested before after status.Fault = IsFault program requested before after
Means program requested before after status.Memory = IsMemory program before after

module _ {Order : Type 0} (program : Program Order) where
  -- A planned outcome, whose text is reported or lost.
  planned_means : (requested : Option Order) (before after : Views) (planned : Status) (text : List ℕ) (s : Status)
      → IsPlannedOutcome program requested before after planned text → ReportsLineWithStatus text planned before.err after.err s
      → Means program requested before after s
  planned_means requested before after planned text s calls (inr (is, broke)) =
      subst (Means program requested before after) (sym is) (inr (record { planned = planned; text = text; calls = calls; broke = broke }))
  planned_means requested before after planned text s (usage none is same kept) (inl (so, told)) =
      subst (Means program requested before after) (sym (so ∙ is))
      (record { is_requested = none; untouched = kept; message = rw same at told })
  planned_means requested before after planned text s (refused order why is_requested is same cause kept) (inl (so, told)) =
      subst (Means program requested before after) (sym (so ∙ is)) (record {
        order = order;
        is_requested = is_requested;
        why = why;
        cause = cause;
        untouched = kept;
        message = rw same at told;
      })
  planned_means requested before after planned text s (failed order is_requested is fails) (inl (so, told)) =
      subst (Means program requested before after) (sym (so ∙ is))
      (inl (record { order = order; is_requested = is_requested; line = text; fails = fails; message = told }))
  planned_means requested before after planned text s (memory is same kept) (inl (so, told)) =
      subst (Means program requested before after) (sym (so ∙ is)) (record { untouched = kept; message = rw same at told })

  -- A failed order.
  halt_means : (order : Order) (before after : Views) (s : Status) (why : Failure)
      → IsFailureOf (program.plan order) before.store after.store why
      → after.out ≡ before.out → ReportsLineWithStatus (failure_line program.name program.usage why) (status_of why) before.err after.err s
      → Means program (Some order) before after s
  halt_means order before after s failure.BadArguments never out tells = absurd never
  halt_means order before after s (failure.MissingInput name) (misses, store) out tells =
      planned_means (Some order) before after status.Fault (cannot_read_line program.name name.now) s
      (failed order refl refl (missing name.now refl (record { misses = misses; untouched = record { store = store; out = out } }))) tells
  halt_means order before after s (failure.ReadFailed name) (attempted, fault, files) out tells =
      planned_means (Some order) before after status.Fault (cannot_read_line program.name name.now) s
      (failed order refl refl (not_read name.now refl (record { attempted = attempted; fault = fault; files = files; out = out }))) tells
  halt_means order before after s (failure.Refused why) (refuses, store) out tells =
      planned_means (Some order) before after status.Refused (message_line program.name why) s
      (refused order why refl refl refl refuses (record { store = store; out = out })) tells
  halt_means order before after s failure.Memory store out tells =
      planned_means (Some order) before after status.Memory (out_of_memory_line program.name) s
      (memory refl refl (record { store = store; out = out })) tells

  -- A product that was delivered, or not.
  delivery_means : (order : Order) (product : ProductValue) (before after : Views) (s : Status)
      → Makes (program.plan order) before.store.files product → Delivers program.name product before after s
      → Means program (Some order) before after s
  delivery_means order product before after s makes (all done wrote report err) =
      subst (Means program (Some order) before after) (sym done) (record {
        order = order;
        is_requested = refl;
        product = product;
        made = makes;
        wrote = wrote;
        report = report;
        err = err;
      })
  delivery_means order product before after s makes (up_to name wrote out tells) =
      planned_means (Some order) before after status.Fault (cannot_write_line program.name name) s
      (failed order refl refl (not_written name refl (record { product = product; made = makes; wrote = wrote; out = out }))) tells
  delivery_means order product before after s makes (but_report wrote broke tells) =
      planned_means (Some order) before after status.Fault (cannot_print_line program.name) s
      (failed order refl refl (unprinted refl (record { product = product; made = makes; wrote = wrote; broke = broke }))) tells

  means : (requested : Option Order) (before after : Views) (s : Status) → IsRunOutcome program requested before after s
      → Means program requested before after s
  means None before after s reports = planned_means None before after status.Usage program.usage s
      (usage refl refl refl (record { store = reports.store; out = reports.out })) reports.line
  means (Some order) before after s (made product makes delivers) = delivery_means order product before after s makes delivers
  means (Some order) before after s (halted why halts out tells) = halt_means order before after s why halts out tells

-- The outcome of a run, in terms of its contract.
pub run_ends : {Order : Type 0} (program : Program Order) → IsSoundProgram program → (requested : Option Order)
    (before after : Views) (s : Status) → IsRunOutcome program requested before after s → RunEnds program requested before after s
run_ends program sound requested before after s ends =
    let is = means program requested before after s ends in
    let At : Status → Type 0 = Means program requested before after in
    record {
      done = λ same. subst At same is;
      refused = λ same. subst At same is;
      usage = λ same. subst At same is;
      fault = λ same. subst At same is;
      memory = λ same. subst At same is;
      others = keeps_others program sound requested before after s ends;
      decided = decided program sound.exact requested before after s ends;
    }
