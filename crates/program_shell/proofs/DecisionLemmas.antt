-- If no fault is counted, the arguments and the files determine the status.
use Rattle.std.proofs.Common.{◌≡◌, ℕ, Bool, true, false, ◌≤◌, inl, inr, List, Option, Some, None, IsSome, length, ap, refl, subst, arith}
use Rattle.program_shell.proofs.Names.{nat_tests, UnlessOutOfMemory, Files, FileHolds, Failure, Status, IsInputContent, Makes, LacksInput, Plan, accepts, satisfies, reads, refuses, ProductValue, Program, IsFaultlessRun, Views, IsDecided, ReportsFailure, all, but_report, up_to, IsFailureOf, status_of, IsExact, IsFileLonger, LacksFile, AttemptsRead, IsAccepted, IsInputTooLong, Refuses, IsRequested, IsOrOutOfMemory, status_is_out_of_memory}
use Rattle.design_model.specs.declared.limits.TheConstants.{MAX_FILE}
use Rattle.program_shell.specs.declared.failure.Failure.TheVariants as failure
use Rattle.program_shell.specs.declared.status.Status.TheVariants as status
use Rattle.program_shell.proofs.RunOutcomes.{IsPlanOutcome, IsRunOutcome, halted, made}
use Rattle.outside_io.proofs.CallerLemmas.{no_rise}

-- a file is not both longer than the limit and within it
not_longer : (files : Option Files) (name bytes : List ℕ) → IsSome files → FileHolds files name bytes → length bytes ≤ MAX_FILE
    → IsInputTooLong files name → ⊥
not_longer None name bytes told holds short longer = cc
not_longer (Some files) name bytes told holds short longer = less (files name) (holds files refl) (longer files refl)
  where
    less : (content : Option (List ℕ)) → content ≡ Some bytes → IsFileLonger content MAX_FILE → ⊥
    less None is more = more
    less (Some held) is more = let same : held ≡ bytes = cc in let count : length held ≡ length bytes = ap length same
        in omega (arith, count, more, short)

-- a file that is too long is there
longer_is_there : (files : Option Files) (name : List ℕ) → IsInputTooLong files name → LacksFile files name → ⊥
longer_is_there None name longer lacks = cc (lacks.visible)
longer_is_there (Some files) name longer lacks = none (files name) (lacks.missing files refl) (longer files refl)
  where
    none : (content : Option (List ℕ)) → content ≡ None → IsFileLonger content MAX_FILE → ⊥
    none None is more = more
    none (Some held) is more = cc

-- what is made is accepted
made_accepted : (plan : Plan) (files : Option Files) (product : ProductValue) → Makes plan files product → IsAccepted plan files
made_accepted (reads name next) files product (bytes, input, makes) = (bytes, input, made_accepted (next bytes) files product makes)
made_accepted (refuses why) files product never = never
made_accepted (accepts Is) files product makes = tt
made_accepted (satisfies Is) files product makes = (product, makes)

-- one file is one input
same_input : (files : Option Files) (name a b : List ℕ) → IsSome files → IsInputContent files name a → IsInputContent files name b → a ≡ b
same_input files name a b told one other = grind (arith, nat_tests, one.held, other.held)

-- what is accepted isn't refused
not_refused : (plan : Plan) (files : Option Files) (why : List ℕ) → IsExact plan → IsSome files
    → IsAccepted plan files → Refuses plan files why → ⊥
not_refused (reads name next) files why exact told (bytes, input, accepted) (inl (is, long)) =
    not_longer files name bytes told input.held input.short long
not_refused (reads name next) files why exact told (bytes, input, accepted) (inr (other, again, refused)) =
    not_refused (next bytes) files why (exact bytes) told accepted
    (subst (λ (b : List ℕ). Refuses (next b) files why) (same_input files name other bytes told again input) refused)
not_refused (refuses reason) files why exact told never refused = never
not_refused (accepts Is) files why exact told accepted never = never
not_refused (satisfies Is) files why exact told (product, makes) refused = exact product why makes refused

-- A plan that attempts to read a missing file is not accepted.
not_accepted : (plan : Plan) (files : Option Files) (name : List ℕ) → IsAccepted plan files → AttemptsRead plan files name
    → LacksFile files name → ⊥
not_accepted (reads name next) files missing (bytes, input, accepted) (inl is) lacks =
    grind (arith, nat_tests, (subst (λ (n : List ℕ). LacksFile files n) is lacks), input.held)
not_accepted (reads name next) files missing (bytes, input, accepted) (inr (other, again, attempted)) lacks =
    not_accepted (next bytes) files missing accepted
    (subst (λ (b : List ℕ). AttemptsRead (next b) files missing) (same_input files name other bytes lacks.visible again input) attempted)
    lacks
not_accepted (refuses reason) files missing accepted never lacks = never
not_accepted (accepts Is) files missing accepted never lacks = never
not_accepted (satisfies Is) files missing accepted never lacks = never

-- nor is it refused
not_both : (plan : Plan) (files : Option Files) (why : List ℕ) (name : List ℕ) → Refuses plan files why
    → AttemptsRead plan files name → LacksFile files name → ⊥
not_both (reads name next) files why missing (inl (is, long)) (inl same) lacks =
    longer_is_there files name long (subst (λ (n : List ℕ). LacksFile files n) same lacks)
not_both (reads name next) files why missing (inl (is, long)) (inr (bytes, input, attempted)) lacks =
    not_longer files name bytes lacks.visible input.held input.short long
not_both (reads name next) files why missing (inr (bytes, input, refused)) (inl same) lacks =
    grind (arith, nat_tests, (subst (λ (n : List ℕ). LacksFile files n) same lacks), input.held)
not_both (reads name next) files why missing (inr (bytes, input, refused)) (inr (other, again, attempted)) lacks =
    not_both (next bytes) files why missing refused
    (subst (λ (b : List ℕ). AttemptsRead (next b) files missing) (same_input files name other bytes lacks.visible again input) attempted)
    lacks
not_both (refuses reason) files why missing refused never lacks = never
not_both (accepts Is) files why missing refused never lacks = never
not_both (satisfies Is) files why missing refused never lacks = never

-- The result of a plan, if no fault is counted.
data Came (plan : Plan) (files : Option Files) (s : Status) : Type 0 where
  came_done : IsAccepted plan files → s ≡ status.Done → Came plan files s
  came_refused : (why : List ℕ) → Refuses plan files why → s ≡ status.Refused → Came plan files s
  came_missing : (name : List ℕ) → LacksInput plan files name → s ≡ status.Fault → Came plan files s
  came_memory : s ≡ status.Memory → Came plan files s

-- A failed plan, if no fault is counted.
halt_came : (plan : Plan) (before after : Views) (s : Status) (why : Failure) → IsFaultlessRun before after
    → IsFailureOf plan before.store after.store why → s ≡ status_of why → Came plan before.store.files s
halt_came plan before after s failure.BadArguments quiet never is = absurd never
halt_came plan before after s (failure.MissingInput name) quiet (misses, store) is = came_missing name.now misses is
halt_came plan before after s (failure.ReadFailed name) quiet (attempted, fault, files) is = absurd (no_rise _ _ quiet.store fault.rose)
halt_came plan before after s (failure.Refused why) quiet (refused, store) is = came_refused why refused is
halt_came plan before after s failure.Memory quiet same is = came_memory is

came : (program usage : List ℕ) (plan : Plan) (before after : Views) (s : Status) → IsFaultlessRun before after
    → IsPlanOutcome program usage plan before after s → Came plan before.store.files s
came program usage plan before after s quiet (made product makes (all is wrote report err)) =
    came_done (made_accepted plan before.store.files product makes) is
came program usage plan before after s quiet (made product makes (up_to name wrote out tells)) =
    absurd (no_rise _ _ quiet.store wrote.fault.rose)
came program usage plan before after s quiet (made product makes (but_report wrote broke tells)) =
    absurd (no_rise _ _ quiet.out broke.rose)
came program usage plan before after s quiet (halted why halts out (inl (is, told))) = halt_came plan before after s why quiet halts is
came program usage plan before after s quiet (halted why halts out (inr (is, broke))) = absurd (no_rise _ _ quiet.err broke.rose)

-- The planned status, and the one for out of memory.
or_memory : (wanted : Bool) (fact : Type 0) → fact → UnlessOutOfMemory wanted fact
or_memory true fact holds = tt
or_memory false fact holds = holds

memory_came : (s planned : Status) → s ≡ status.Memory → IsOrOutOfMemory s planned
memory_came s planned is = rw is tt

-- how a plan is decided
done_or_memory : (plan : Plan) (files : Option Files) (s : Status) → IsExact plan → Came plan files s → IsSome files
    → IsAccepted plan files → IsOrOutOfMemory s status.Done
done_or_memory plan files s exact (came_done other is) told accepted = or_memory (status_is_out_of_memory s) (s ≡ status.Done) is
done_or_memory plan files s exact (came_refused why refused is) told accepted =
    absurd (not_refused plan files why exact told accepted refused)
done_or_memory plan files s exact (came_missing name misses is) told accepted =
    absurd (not_accepted plan files name accepted misses.attempted misses.lacks)
done_or_memory plan files s exact (came_memory is) told accepted = memory_came s status.Done is

refused_or_memory : (plan : Plan) (files : Option Files) (s : Status) (why : List ℕ) → IsExact plan → Came plan files s
    → IsSome files → Refuses plan files why → IsOrOutOfMemory s status.Refused
refused_or_memory plan files s why exact (came_done accepted is) told refused =
    absurd (not_refused plan files why exact told accepted refused)
refused_or_memory plan files s why exact (came_refused other others is) told refused = or_memory (status_is_out_of_memory s) (s
    ≡ status.Refused) is
refused_or_memory plan files s why exact (came_missing name misses is) told refused =
    absurd (not_both plan files why name refused misses.attempted misses.lacks)
refused_or_memory plan files s why exact (came_memory is) told refused = memory_came s status.Refused is

fault_or_memory : (plan : Plan) (files : Option Files) (s : Status) (name : List ℕ) → Came plan files s → LacksInput plan files name
    → IsOrOutOfMemory s status.Fault
fault_or_memory plan files s name (came_done accepted is) misses =
    absurd (not_accepted plan files name accepted misses.attempted misses.lacks)
fault_or_memory plan files s name (came_refused why refused is) misses =
    absurd (not_both plan files why name refused misses.attempted misses.lacks)
fault_or_memory plan files s name (came_missing other others is) misses = or_memory (status_is_out_of_memory s) (s ≡ status.Fault) is
fault_or_memory plan files s name (came_memory is) misses = memory_came s status.Fault is

-- Arguments that request no order have the status `Usage`.
usage_told : (program usage : List ℕ) (before after : Views) (s : Status) → IsFaultlessRun before after
    → ReportsFailure program usage failure.BadArguments before after s → s ≡ status.Usage
usage_told program usage before after s h1 h2 = grind (arith, nat_tests)

module _ {Order : Type 0} (program : Program Order) (exact : (order : Order) → IsExact (program.plan order)) where
  -- The requested order has an outcome.
  order_came : (requested : Option Order) (order : Order) (before after : Views) (s : Status) → IsRequested requested order
      → IsFaultlessRun before after → IsRunOutcome program requested before after s → Came (program.plan order) before.store.files s
  order_came requested order before after s is_requested quiet ends =
      came program.name program.usage (program.plan order) before after s quiet
      (subst (λ (o : Option Order). IsRunOutcome program o before after s) is_requested ends)

  -- If no fault is counted, the arguments and the files determine the status.
  pub decided : (requested : Option Order) (before after : Views) (s : Status) → IsRunOutcome program requested before after s
      → IsFaultlessRun before after → IsDecided program requested before.store.files s
  decided requested before after s ends quiet = record {
    usage = λ none. usage_told program.name program.usage before after s quiet
        (subst (λ (o : Option Order). IsRunOutcome program o before after s) none ends);
    done = λ order is_requested told accepted. done_or_memory (program.plan order) before.store.files s (exact order)
        (order_came requested order before after s is_requested quiet ends) told accepted;
    refused = λ order why is_requested told refused. refused_or_memory (program.plan order) before.store.files s why (exact order)
        (order_came requested order before after s is_requested quiet ends) told refused;
    missing = λ order name is_requested misses. fault_or_memory (program.plan order) before.store.files s name
        (order_came requested order before after s is_requested quiet ends) misses;
  }
