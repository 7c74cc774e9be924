-- Lemmas for the crates of programs: plans that load a file by the format of its name.
use Rattle.std.proofs.Common.{◌≡◌, ℕ, List, Option, None, Some, Result, Ok, slice_get}
use Rattle.format_traits.specs.Meanings.{Meaning}
use Rattle.format_traits.specs.declared.fault.ReadFault.{ReadFault}
use Rattle.format_traits.specs.declared.loaded.Loaded.{Loaded}
use Rattle.outside_io.specs.Views.{StoreView}
use Rattle.program_inputs.specs.FoundFiles.{LoadsFound}
use Rattle.program_inputs.specs.declared.format_indexes.Found.{Found}
use Rattle.program_shell.proofs.CallerLemmas.{settles_taken}
use Rattle.program_shell.specs.Plans.{Plan, reads}
use Rattle.program_shell.specs.Programs.{Program}
use Rattle.program_shell.specs.StepOutcomes.{RunsPlan, RunsPurePlan, RunsRequest}
use Rattle.program_shell.specs.declared.failure.Failure.{Failure}
use Rattle.program_shell.specs.declared.product.Product.{Product}

-- A request for a plan that reads one file, by the format of its name, and then no other.
pub settles_found : {Order : Type 0} (program : Program Order) (request : Option Meaning → Option Order) (name : List ℕ)
    (next : Meaning → Result Loaded ReadFault → Plan) (formats : List Meaning) (known : Option Meaning) (store store' : StoreView)
    (found : Found) (result : Result Product Failure) → LoadsFound formats known name store store' (Ok found)
    → ((m : Meaning) → RunsPlan (reads name (λ bytes. next m (m.reads bytes))) store store' result → RunsRequest program (request (Some m))
    store store' result) → ((m : Meaning) → slice_get formats found.index ≡ Some m → RunsPurePlan (next m (Ok found.loaded)) result)
    → RunsRequest program (request known) store store' result
settles_found program request name next formats None store store' found result loads runs settles = absurd (let no : ⊥ = cc in no)
settles_found program request name next formats (Some m) store store' found result (input, at) runs settles =
    runs m (settles_taken name m.reads (next m) store store' found.loaded result input (settles m at))
