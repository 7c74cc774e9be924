-- A drawing that isn't read is refused with the text about its fault.
use Rattle.std.proofs.Common.{◌≡◌, ◌==◌, ℕ, List, false, Result, Ok, Err, inr}
use Rattle.std.proofs.lemmas.Bool.{and_left}
use Rattle.design_model.specs.OutOfMemory.{IsSpecified}
use Rattle.drawing_text.specs.declared.draw_fault.DrawFault.{DrawFault}
use Rattle.drawing_text.specs.DrawingText.{draw_fault_is_out_of_memory}
use Rattle.line_graph.specs.GrowingDrawings.{draw_is_out_of_memory}
use Rattle.outside_io.specs.Views.{StoreView}
use Rattle.program_shell.specs.declared.failure.Failure.{Failure}
use Rattle.program_shell.specs.declared.failure.Failure.TheVariants as failure
use Rattle.program_shell.proofs.CallerLemmas.{fault_found}
use Rattle.program_shell.specs.StepOutcomes.{IsFaultFailure, ParsesInput, ReadsInput}
use Rattle.program_texts.specs.DrawingTexts.{draw_fault_text}

-- a fault that isn't out of memory is the one that the text has
found : {V : Type 0} (said : Result V DrawFault) (fault : DrawFault) → IsSpecified draw_fault_is_out_of_memory said (Err fault)
    → draw_is_out_of_memory fault.kind ≡ false → said ≡ Err fault
found said fault spec known =
    fault_found draw_fault_is_out_of_memory said fault spec (and_left (draw_is_out_of_memory fault.kind) (fault.number == 0) known)

pub refused : {V : Type 0} (says : List ℕ → Result V DrawFault) (name bytes : List ℕ) (old new : StoreView) (fault : DrawFault)
    (why : Failure) → ReadsInput name old new (Ok bytes) → IsSpecified draw_fault_is_out_of_memory (says bytes) (Err fault)
    → IsFaultFailure (draw_is_out_of_memory fault.kind) (draw_fault_text name fault) why
    → ParsesInput says (draw_fault_text name) name old new (Err why)
refused says name bytes old new fault failure.BadArguments read spec never = absurd never
refused says name bytes old new fault (failure.MissingInput missing) read spec never = absurd never
refused says name bytes old new fault (failure.ReadFailed lost) read spec never = absurd never
refused says name bytes old new fault (failure.Refused text) read spec (is, known) = inr (record {
  fault = fault;
  input = record { bytes = bytes; read = read; is = found (says bytes) fault spec known };
  is_text = is;
})
refused says name bytes old new fault failure.Memory read spec out = read.1
