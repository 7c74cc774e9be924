-- The outcomes of finishing a run: a product is delivered, or a failure is reported.
use Rattle.std.specs.Prelude.{◌≡◌, ◌⊎◌, ℕ, List, Result, Ok, Err}
use Rattle.outside_io.specs.Views.{SinkView}
use Rattle.program_shell.specs.declared.failure.Failure.{Failure}
use Rattle.program_shell.specs.declared.failure.Failure.TheVariants as failure
use Rattle.program_shell.specs.declared.product.Product.{Product}
use Rattle.program_shell.specs.declared.status.Status.{Status}
use Rattle.program_shell.specs.declared.status.Status.TheVariants as status
use Rattle.program_shell.specs.Messages.{cannot_print_line, cannot_read_line, cannot_write_line, message_line, out_of_memory_line}
use Rattle.program_shell.specs.Products.{ProductValue, WroteAll, WroteUpTo, product_value}
use Rattle.program_shell.specs.Puts.{PutFailed, with_bytes_put, ReportsLineWithStatus}
use Rattle.program_shell.specs.RunViews.{Views}
use Rattle.program_shell.specs.StepOutcomes.{status_of}

-- What a program with that name and usage text reports of a failure.
abbrev pub failure_line : (program usage : List ℕ) → Failure → List ℕ
failure_line program usage failure.BadArguments = usage
failure_line program usage (failure.MissingInput name) = cannot_read_line program name.now
failure_line program usage (failure.ReadFailed name) = cannot_read_line program name.now
failure_line program usage (failure.Refused text) = message_line program text
failure_line program usage failure.Memory = out_of_memory_line program

-- The outcome of printing the report: it is printed, or the line of the program about the failed
-- print is reported.
abbrev pub PrintsReport : (program report : List ℕ) → SinkView → SinkView → SinkView → SinkView
    → Status → Type 0
PrintsReport program report out out' err err' s =
    ((s ≡ status.Done) × (out' ≡ with_bytes_put out report) × (err' ≡ err))
    ⊎ (PutFailed out out' report
    × ReportsLineWithStatus (cannot_print_line program) status.Fault err err' s)

-- The outcome of delivering a product: everything is written and printed, or the line of the
-- program about the failed write or print is reported.
pub data Delivers (program : List ℕ) (product : ProductValue) (before after : Views)
    (s : Status) : Type 0 where
  all : s ≡ status.Done → WroteAll product.outputs before.store after.store
      → after.out ≡ with_bytes_put before.out product.report → after.err ≡ before.err
      → Delivers program product before after s
  up_to : (name : List ℕ) → WroteUpTo product.outputs name before.store after.store → after.out
      ≡ before.out
      → ReportsLineWithStatus (cannot_write_line program name) status.Fault before.err after.err s
      → Delivers program product before after s
  but_report : WroteAll product.outputs before.store after.store
      → PutFailed before.out after.out product.report
      → ReportsLineWithStatus (cannot_print_line program) status.Fault before.err after.err s
      → Delivers program product before after s

-- The outcome of reporting a failure: files and standard output are unchanged, and the line about
-- it is reported.
pub record ReportsFailure (program usage : List ℕ) (why : Failure) (before after : Views)
    (s : Status) : Type 0 where
  pub store : after.store ≡ before.store
  pub out : after.out ≡ before.out
  pub line : ReportsLineWithStatus (failure_line program usage why) (status_of why) before.err
      after.err s

-- The outcome of finishing a run: a product is delivered, or a failure is reported.
abbrev pub FinishesRun : (program usage : List ℕ) → Result Product Failure → Views → Views → Status
    → Type 0
FinishesRun program usage (Ok product) before after s = Delivers program (product_value product)
    before after s
FinishesRun program usage (Err why) before after s = ReportsFailure program usage why before after s
