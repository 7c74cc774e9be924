-- Out of memory is the only exception from the specification, in a run and in what it reads and makes.
use Rattle.std.proofs.Common.{◌≡◌, [], ◌∷◌, true, false, map, refl}
use Rattle.stitch_cli.proofs.Names.{draw_is_out_of_memory, status_is_out_of_memory, IsOrOutOfMemory, trace_is_out_of_memory}
use Rattle.line_graph.specs.declared.draw_kind.DrawKind.TheVariants as kind
use Rattle.outside_io.specs.Causes.{get_is_out_of_memory}
use Rattle.outside_io.specs.declared.whole_files.GetFault.TheVariants as get
use Rattle.program_shell.specs.declared.status.Status.TheVariants as status
use Rattle.stitch_trace.specs.declared.trace_fault.TraceFault.TheVariants as trace

pub known_statuses : map status_is_out_of_memory (status.Done ∷ status.Refused ∷ status.Usage ∷ status.Fault ∷ status.Memory ∷ [])
    ≡ false ∷ false ∷ false ∷ false ∷ true ∷ []
known_statuses = refl

pub known_gets : map get_is_out_of_memory (get.Missing ∷ get.Failed ∷ get.TooLong ∷ get.Memory ∷ []) ≡ false ∷ false ∷ false ∷ true ∷ []
known_gets = refl

pub known_draws : map draw_is_out_of_memory (
    kind.BadHeader ∷ kind.BadWord ∷ kind.BadNumber ∷ kind.OutOfRange ∷ kind.FewPoints ∷ kind.RepeatedPoint ∷ kind.EmptyBlock ∷ kind.NoBlock
    ∷ kind.TooManyLines ∷ kind.TooManyPoints ∷ kind.TooManyBlocks ∷ kind.TooMuchCost ∷ kind.NoJunction ∷ kind.EndRepeated
    ∷ kind.Memory ∷ [])
    ≡ false ∷ false ∷ false ∷ false ∷ false ∷ false ∷ false ∷ false
    ∷ false ∷ false ∷ false ∷ false ∷ false ∷ false ∷ true ∷ []
known_draws = refl

pub known_traces : map trace_is_out_of_memory (trace.NoLinks ∷ trace.LinkTooLong 7 ∷ trace.Limit kind.TooManyLines ∷ trace.Memory ∷ [])
    ≡ false ∷ false ∷ false ∷ true ∷ []
known_traces = refl

-- An accepted run is not reported as refused, and a refused run not as done.
pub known_decided : (IsOrOutOfMemory status.Refused status.Done → ⊥) × (IsOrOutOfMemory status.Done status.Refused → ⊥)
known_decided = (λ is. cc, λ is. cc)
