-- What finishing a run excludes, and plans that decide.
use Rattle.std.proofs.Common.{◌≡◌, ℕ, ◌⊎◌, ◌++◌, ◌∷◌, [], List, Ok, Err, None, codes, inl, inr, refl, ⊎_elim}
use Rattle.design_model.specs.TextLines.{newline}
use Rattle.program_shell.proofs.Names.{SinkView, Product, Status, Failed, PutFailed, with_bytes_put, ReportsLineWithStatus, Plan, accepts, reads, satisfies, ProductValue, WroteAll, WroteUpTo, IsExact, IsSoundProgram, Delivers, FinishesRun, ReportsFailure, all, but_report, up_to, failure_line, Views, product_value}
use Rattle.program_shell.proofs.OutcomeFacts.{one_plan}
use Rattle.program_shell.specs.ExitCodes.{IsEndWithoutMemory}
use Rattle.program_shell.specs.FinishedRuns.{PrintsReport}
use Rattle.program_shell.specs.PutSteps.{Gathers}
use Rattle.program_shell.specs.declared.failure.Failure.TheVariants as failure
use Rattle.program_shell.specs.declared.status.Status.TheVariants as status

-- the line of each failure, of a program `p` with the usage text `u`
pub known_lines : (name : _) → (failure_line (codes "p") (codes "u") failure.BadArguments ≡ codes "u")
    × (failure_line (codes "p") (codes "u") (failure.MissingInput name)
    ≡ codes "p" ++ (codes ": " ++ (codes "cannot read " ++ (name.now ++ newline))))
    × (failure_line (codes "p") (codes "u") (failure.ReadFailed name)
    ≡ codes "p" ++ (codes ": " ++ (codes "cannot read " ++ (name.now ++ newline))))
    × (failure_line (codes "p") (codes "u") (failure.Refused (codes "a: b")) ≡ codes "p: a: b" ++ newline)
    × (failure_line (codes "p") (codes "u") failure.Memory ≡ codes "p: out of memory" ++ newline)
known_lines name = (refl, refl, refl, refl, refl)

-- a line for a failed call ends with that status or with `Fault`
no_line : (text : List ℕ) (err err' : SinkView) → ReportsLineWithStatus text status.Fault err err' status.Done → ⊥
no_line text err err' reports = ⊎_elim (λ put. other put.0) (λ failed. other failed.0) reports
  where
    other : status.Done ≡ status.Fault → ⊥
    other is = cc

-- a report is printed and nothing else reported, or its print failed
pub known_printed : (report : List ℕ) (out out' err err' : SinkView) → PrintsReport (codes "p") report out out' err err' status.Done
    → (out' ≡ with_bytes_put out report) × (err' ≡ err)
known_printed report out out' err err' prints =
    ⊎_elim (λ done. (done.1, done.2)) (λ failed. absurd (no_line (codes "p: cannot print" ++ newline) err err' failed.1)) prints

pub known_not_printed : (report : List ℕ) (out out' err err' : SinkView) → PrintsReport (codes "p") report out out' err err' status.Fault
    → PutFailed out out' report × ReportsLineWithStatus (codes "p: cannot print" ++ newline) status.Fault err err' status.Fault
known_not_printed report out out' err err' prints = ⊎_elim (λ done. absurd (other done.0)) (λ failed. failed) prints
  where
    other : status.Fault ≡ status.Done → ⊥
    other is = cc

-- a product is delivered where all is written and printed, and nothing is reported
pub known_delivered : (product : ProductValue) (before after : Views) → Delivers (codes "p") product before after status.Done
    → WroteAll product.outputs before.store after.store × (after.out ≡ with_bytes_put before.out product.report)
    × (after.err ≡ before.err)
known_delivered product before after (all done wrote out err) = (wrote, out, err)
known_delivered product before after (up_to name wrote out reports) = absurd (no_line _ before.err after.err reports)
known_delivered product before after (but_report wrote broke reports) = absurd (no_line _ before.err after.err reports)

-- where it isn't, a write failed and nothing is printed, or the print failed after all was written
pub known_undelivered : (product : ProductValue) (before after : Views) → Delivers (codes "p") product before after status.Fault
    → ((name : List ℕ) × WroteUpTo product.outputs name before.store after.store × (after.out ≡ before.out)
    × ReportsLineWithStatus (codes "p" ++ (codes ": " ++ (codes "cannot write " ++ (name ++ newline)))) status.Fault
    before.err after.err status.Fault)
    ⊎ (WroteAll product.outputs before.store after.store × PutFailed before.out after.out product.report
    × ReportsLineWithStatus (codes "p: cannot print" ++ newline) status.Fault before.err after.err status.Fault)
known_undelivered product before after (all done wrote out err) = absurd (other done)
  where
    other : status.Fault ≡ status.Done → ⊥
    other is = cc
known_undelivered product before after (up_to name wrote out reports) = inl (name, wrote, out, reports)
known_undelivered product before after (but_report wrote broke reports) = inr (wrote, broke, reports)

-- a failure leaves files and standard output, and its line is reported
pub known_failure : (before after : Views) (s : Status) → ReportsFailure (codes "p") (codes "u") failure.BadArguments before after s
    → (after.store ≡ before.store) × (after.out ≡ before.out)
    × ReportsLineWithStatus (codes "u") status.Usage before.err after.err s
known_failure before after s reports = (reports.store, reports.out, reports.line)

-- a run without a failure delivers its product, and one with a failure reports it
pub known_finished : (product : Product) (before after : Views) → FinishesRun (codes "p") (codes "u") (Ok product) before after status.Done
    → (after.out ≡ with_bytes_put before.out product.report) × (after.err ≡ before.err)
known_finished product before after finishes =
    let is = known_delivered (product_value product) before after finishes in (is.1, is.2)

pub known_unfinished : (before after : Views) → FinishesRun (codes "p") (codes "u") (Err failure.Memory) before after status.Memory
    → (after.store ≡ before.store) × (after.out ≡ before.out)
    × ReportsLineWithStatus (codes "p: out of memory" ++ newline) status.Memory before.err after.err status.Memory
known_unfinished before after finishes = (finishes.store, finishes.out, finishes.line)

-- a plan that makes and refuses the same isn't exact, be it behind a read
abbrev anything : Plan
anything = satisfies (λ result. Unit {0})

abbrev empty : ProductValue
empty = record { outputs = []; report = [] }

pub known_inexact : (IsExact anything → ⊥) × (IsExact (reads [] (λ bytes. anything)) → ⊥)
known_inexact = (λ is. is empty [] tt tt, λ is. is [] empty [] tt tt)

-- each plan of a program decides, and its outputs are those of its products
pub known_unsound : IsSoundProgram (one_plan anything) → ⊥
known_unsound is = is.exact 3 empty [] tt tt

pub known_other_outputs : IsSoundProgram (one_plan (accepts (λ product. Unit {0}))) → ⊥
known_other_outputs is = other (is.outputs 3 None (record { outputs = record { name = 5 ∷ []; content = [] } ∷ []; report = [] }) tt)
  where
    other : ◌≡◌ {A = List (List ℕ)} ((5 ∷ []) ∷ []) [] → ⊥
    other same = cc

-- a program without memory ends with no other status
pub known_without_memory : IsEndWithoutMemory status.Memory × IsEndWithoutMemory status.Fault × (IsEndWithoutMemory status.Done → ⊥)
known_without_memory = (inl refl, inr refl, λ ended. ⊎_elim (λ is. first is) (λ is. second is) ended)
  where
    first : status.Done ≡ status.Memory → ⊥
    first is = cc

    second : status.Done ≡ status.Fault → ⊥
    second is = cc

-- bytes that are gathered are put in part, and the rest is in the line
pub known_gathered : (bytes line : List ℕ) (before after : SinkView) (n : ℕ) → Gathers {T = ℕ} bytes line before after (Ok n)
    → (first : List ℕ) × (first ++ line ≡ bytes) × (after ≡ with_bytes_put before first)
known_gathered bytes line before after n gathers = gathers.ok

pub known_not_gathered : (bytes line : List ℕ) (before after : SinkView) (f : Failed) → Gathers {T = ℕ} bytes line before after (Err f)
    → PutFailed before after bytes
known_not_gathered bytes line before after f gathers = gathers.err
