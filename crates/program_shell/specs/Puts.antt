-- Puts: bytes added to a sink.
use Rattle.std.specs.Prelude.{◌≡◌, ◌⊎◌, ℕ, List, ◌++◌, Result, OnErr, OnOk}
use Rattle.outside_io.specs.declared.store.Failed.{Failed}
use Rattle.outside_io.specs.Causes.{with_bytes_taken}
use Rattle.outside_io.specs.Counts.{Rose}
use Rattle.outside_io.specs.Views.{SinkView}
use Rattle.program_shell.specs.declared.status.Status.{Status}
use Rattle.program_shell.specs.declared.status.Status.TheVariants as status

-- The view of a sink after these bytes were taken without a fault.
abbrev pub with_bytes_put : SinkView → List ℕ → SinkView
with_bytes_put before bytes = record {
  taken = with_bytes_taken before.taken bytes;
  faults = before.faults;
}

-- A failed put: a prefix of the bytes was taken, and the fault count rose.
pub record PutFailed (before after : SinkView) (bytes : List ℕ) : Type 0 where
  pub first : List ℕ
  pub rest : List ℕ
  pub split : first ++ rest ≡ bytes
  pub taken : after.taken ≡ with_bytes_taken before.taken first
  pub rose : Rose before.faults after.faults

-- The result of putting these bytes.
pub record Puts {T : Type 0} (bytes : List ℕ) (before after : SinkView)
    (result : Result T Failed) : Type 0 where
  pub ok : OnOk result (after ≡ with_bytes_put before bytes)
  pub err : OnErr result (PutFailed before after bytes)

-- The outcome of reporting a line: it is on the standard error and the status is the planned one,
-- or the put failed and the status is `Fault`.
abbrev pub ReportsLineWithStatus : List ℕ → Status → SinkView → SinkView → Status → Type 0
ReportsLineWithStatus text planned err err' s =
    ((s ≡ planned) × (err' ≡ with_bytes_put err text))
    ⊎ ((s ≡ status.Fault) × PutFailed err err' text)
