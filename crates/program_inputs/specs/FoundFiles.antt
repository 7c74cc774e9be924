-- Input files that are decoded by the format of their name.
use Rattle.std.specs.Prelude.{◌≡◌, ℕ, List, Option, Some, None, Result, Ok, Err, slice_get}
use Rattle.format_traits.specs.Meanings.{Meaning}
use Rattle.outside_io.specs.Views.{StoreView}
use Rattle.program_shell.specs.declared.failure.Failure.{Failure}
use Rattle.program_shell.specs.declared.failure.Failure.TheVariants as failure
use Rattle.program_shell.specs.FileTexts.{read_fault_text}
use Rattle.program_shell.specs.StepOutcomes.{IsParsedInput, ParsesInput}
use Rattle.program_inputs.specs.declared.format_indexes.Found.{Found}

-- The result of reading and decoding an input file by the format of its name: a failure where the
-- name has no format, else as the format reads it.
abbrev pub LoadsFound : List Meaning → Option Meaning → List ℕ → StoreView → StoreView
    → Result Found Failure → Type 0
LoadsFound formats None name store store' result = (result ≡ Err failure.BadArguments)
    × (store' ≡ store)
LoadsFound formats (Some m) name store store' (Ok found) =
    IsParsedInput m.reads name store store' (Ok found.loaded)
    × (slice_get formats found.index ≡ Some m)
LoadsFound formats (Some m) name store store' (Err why) =
    ParsesInput m.reads (read_fault_text name) name store store' (Err why)
