-- The failures of files and streams in a run, each with its line on the standard error.
use Rattle.std.specs.Prelude.{◌≡◌, ℕ, List}
use Rattle.outside_io.specs.Blames.{read_call}
use Rattle.outside_io.specs.Causes.{CallFailed}
use Rattle.program_shell.specs.Plans.{AttemptsRead, Makes, LacksInput, Plan}
use Rattle.program_shell.specs.Products.{ProductValue, WroteAll, WroteUpTo}
use Rattle.program_shell.specs.Puts.{PutFailed}
use Rattle.program_shell.specs.Messages.{cannot_print_line, cannot_read_line, cannot_write_line}
use Rattle.program_shell.specs.RunViews.{Views, IsUntouched}

-- An input file of the order is missing: nothing is changed.
pub record IsMissingInput (plan : Plan) (name : List ℕ) (before after : Views) : Type 0 where
  pub misses : LacksInput plan before.store.files name
  pub untouched : IsUntouched before after

-- The read of an input file failed: nothing else is changed.
pub record IsReadFailure (plan : Plan) (name : List ℕ) (before after : Views) : Type 0 where
  pub attempted : AttemptsRead plan before.store.files name
  pub fault : CallFailed before.store after.store (read_call name)
  pub files : after.store.files ≡ before.store.files
  pub out : after.out ≡ before.out

-- The write of an output file failed: the output files before it are written.
pub record IsWriteFailure (plan : Plan) (name : List ℕ) (before after : Views) : Type 0 where
  pub product : ProductValue
  pub made : Makes plan before.store.files product
  pub wrote : WroteUpTo product.outputs name before.store after.store
  pub out : after.out ≡ before.out

-- The print of the report failed: all output files are written.
pub record IsPrintFailure (plan : Plan) (before after : Views) : Type 0 where
  pub product : ProductValue
  pub made : Makes plan before.store.files product
  pub wrote : WroteAll product.outputs before.store after.store
  pub broke : PutFailed before.out after.out product.report

-- The failure of a plan at a file or the standard output, with the line of the program about it.
pub data IsOutsideFailure (program : List ℕ) (plan : Plan) (before after : Views)
    (line : List ℕ) : Type 0 where
  missing : (name : List ℕ) → line ≡ cannot_read_line program name
      → IsMissingInput plan name before after
      → IsOutsideFailure program plan before after line
  not_read : (name : List ℕ) → line ≡ cannot_read_line program name
      → IsReadFailure plan name before after
      → IsOutsideFailure program plan before after line
  not_written : (name : List ℕ) → line ≡ cannot_write_line program name
      → IsWriteFailure plan name before after
      → IsOutsideFailure program plan before after line
  unprinted : line ≡ cannot_print_line program → IsPrintFailure plan before after
      → IsOutsideFailure program plan before after line
