-- The exit statuses of a program, and what each one guarantees about files and streams. The
-- arguments of a run request an order of the program (Programs), or none. The plan of the order
-- (Plans) says which files it reads, and what it accepts or refuses. A product (Products) is the
-- files that an order writes and the report that it prints. Views before and after a run (RunViews)
-- are what contracts see of the files, the standard output and the standard error. Files that the
-- store hides have no content in a view: the facts about their content then hold trivially.
use Rattle.std.specs.Prelude.{◌≡◌, ℕ, ◌⊎◌, Bool, true, false, List, Option, Some, None, IsSome}
use Rattle.design_model.specs.OutOfMemory.{UnlessOutOfMemory}
use Rattle.outside_io.specs.Files.{Files}
use Rattle.program_shell.specs.declared.status.Status.{Status}
use Rattle.program_shell.specs.declared.status.Status.TheVariants as status
use Rattle.program_shell.specs.Plans.{IsAccepted, Makes, LacksInput, Refuses}
use Rattle.program_shell.specs.Products.{ChangesOnlyFiles, ProductValue, WroteAll}
use Rattle.program_shell.specs.Puts.{PutFailed, with_bytes_put}
use Rattle.program_shell.specs.Messages.{message_line, out_of_memory_line}
use Rattle.program_shell.specs.Programs.{Program}
use Rattle.program_shell.specs.RunViews.{Views, IsUntouched, IsFaultlessRun}
use Rattle.program_shell.specs.RunFailures.{IsOutsideFailure}

-- The arguments request this order.
abbrev pub IsRequested : {Order : Type 0} → Option Order → Order → Type 0
IsRequested requested order = requested ≡ Some order

-- Status `Done`: the requested order makes a product, the files of the product are written, the
-- report is printed, and the standard error is unchanged.
pub record IsDone {Order : Type 0} (program : Program Order) (requested : Option Order)
    (before after : Views) : Type 0 where
  pub order : Order
  pub is_requested : IsRequested requested order
  pub product : ProductValue
  pub made : Makes (program.plan order) before.store.files product
  pub wrote : WroteAll product.outputs before.store after.store
  pub report : after.out ≡ with_bytes_put before.out product.report
  pub err : after.err ≡ before.err

-- Status `Refused`: the plan of the requested order refuses with a text, and the line with that
-- text is on the standard error. Files and standard output are unchanged.
pub record IsRefused {Order : Type 0} (program : Program Order) (requested : Option Order)
    (before after : Views) : Type 0 where
  pub order : Order
  pub is_requested : IsRequested requested order
  pub why : List ℕ
  pub cause : Refuses (program.plan order) before.store.files why
  pub untouched : IsUntouched before after
  pub message : after.err ≡ with_bytes_put before.err (message_line program.name why)

-- Status `Usage`: the arguments request no order, the usage text is on the standard error, and
-- files and standard output are unchanged.
pub record IsUsage {Order : Type 0} (program : Program Order) (requested : Option Order)
    (before after : Views) : Type 0 where
  pub is_requested : requested ≡ None
  pub untouched : IsUntouched before after
  pub message : after.err ≡ with_bytes_put before.err program.usage

-- Status `Memory`: the line about memory is on the standard error, and files and standard output
-- are unchanged.
pub record IsMemory {Order : Type 0} (program : Program Order) (before after : Views) : Type 0 where
  pub untouched : IsUntouched before after
  pub message : after.err ≡ with_bytes_put before.err (out_of_memory_line program.name)

-- A failed run: a read, a write or the print of the report failed, and its line is on the standard
-- error.
pub record IsFailed {Order : Type 0} (program : Program Order) (requested : Option Order)
    (before after : Views) : Type 0 where
  pub order : Order
  pub is_requested : IsRequested requested order
  pub line : List ℕ
  pub fails : IsOutsideFailure program.name (program.plan order) before after line
  pub message : after.err ≡ with_bytes_put before.err line

-- The planned outcome of a run that is not done: the status, and the text for the standard error.
pub data IsPlannedOutcome {Order : Type 0} (program : Program Order) (requested : Option Order)
    (before after : Views) (planned : Status) (text : List ℕ) : Type 0 where
  usage : requested ≡ None → planned ≡ status.Usage → text ≡ program.usage
      → IsUntouched before after
      → IsPlannedOutcome program requested before after planned text
  refused : (order : Order) (why : List ℕ) → IsRequested requested order
      → planned ≡ status.Refused
      → text ≡ message_line program.name why → Refuses (program.plan order) before.store.files why
      → IsUntouched before after
      → IsPlannedOutcome program requested before after planned text
  failed : (order : Order) → IsRequested requested order → planned ≡ status.Fault
      → IsOutsideFailure program.name (program.plan order) before after text
      → IsPlannedOutcome program requested before after planned text
  memory : planned ≡ status.Memory → text ≡ out_of_memory_line program.name
      → IsUntouched before after
      → IsPlannedOutcome program requested before after planned text

-- A lost report: the standard error failed while the text of the planned outcome was written.
-- Everything else is as in that outcome.
pub record IsReportLost {Order : Type 0} (program : Program Order) (requested : Option Order)
    (before after : Views) : Type 0 where
  pub planned : Status
  pub text : List ℕ
  pub calls : IsPlannedOutcome program requested before after planned text
  pub broke : PutFailed before.err after.err text

-- Status `Fault`: a read, a write or the print of the report failed, or the standard error did.
abbrev pub IsFault : {Order : Type 0} → Program Order → Option Order → Views → Views → Type 0
IsFault program requested before after = IsFailed program requested before after
    ⊎ IsReportLost program requested before after

-- Files that the order does not write are unchanged; all files are, if the arguments request no
-- order.
abbrev pub KeepsOtherFiles : {Order : Type 0} → Program Order → Option Order → Views → Views
    → Type 0
KeepsOtherFiles program None before after = after.store.files ≡ before.store.files
KeepsOtherFiles program (Some order) before after = ChangesOnlyFiles
    (program.outputs order) before.store.files after.store.files

-- The test whether a status means out of memory.
abbrev pub status_is_out_of_memory : Status → Bool
status_is_out_of_memory status.Memory = true
status_is_out_of_memory other = false

-- The planned status, or out of memory.
abbrev pub IsOrOutOfMemory : Status → Status → Type 0
IsOrOutOfMemory s planned = UnlessOutOfMemory (status_is_out_of_memory s) (s ≡ planned)

-- The arguments and the files determine the status, if files are visible. No order is `Usage`, an
-- accepted order `Done`, a refused order `Refused`, and an order whose input file is missing
-- `Fault`. Out of memory is possible in the last three cases.
pub record IsDecided {Order : Type 0} (program : Program Order) (requested : Option Order)
    (files : Option Files) (s : Status) : Type 0 where
  pub usage : requested ≡ None → s ≡ status.Usage
  pub done : (order : Order) → IsRequested requested order → IsSome files
      → IsAccepted (program.plan order) files
      → IsOrOutOfMemory s status.Done
  pub refused : (order : Order) (why : List ℕ) → IsRequested requested order → IsSome files
      → Refuses (program.plan order) files why → IsOrOutOfMemory s status.Refused
  pub missing : (order : Order) (name : List ℕ) → IsRequested requested order
      → LacksInput (program.plan order) files name
      → IsOrOutOfMemory s status.Fault

-- The specification of a run: what each status guarantees, and which files are unchanged whatever
-- the status is (`others`). If no fault is counted, the arguments and the files determine the
-- status (`decided`).
pub record RunEnds {Order : Type 0} (program : Program Order) (requested : Option Order)
    (before after : Views) (s : Status) : Type 0 where
  pub done : s ≡ status.Done → IsDone program requested before after
  pub refused : s ≡ status.Refused → IsRefused program requested before after
  pub usage : s ≡ status.Usage → IsUsage program requested before after
  pub fault : s ≡ status.Fault → IsFault program requested before after
  pub memory : s ≡ status.Memory → IsMemory program before after
  pub others : KeepsOtherFiles program requested before after
  pub decided : IsFaultlessRun before after → IsDecided program requested before.store.files s
