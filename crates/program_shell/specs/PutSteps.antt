-- The results of the inner steps of a put. No public clause refers to this file.
use Rattle.std.specs.Prelude.{◌≡◌, ℕ, List, ◌++◌, Result, OnErr, OnOk}
use Rattle.outside_io.specs.declared.store.Failed.{Failed}
use Rattle.outside_io.specs.Views.{SinkView}
use Rattle.program_shell.specs.Puts.{PutFailed, with_bytes_put}

-- The result of gathering bytes: a prefix was put, and the rest is in the line buffer; or a put
-- failed.
pub record Gathers {T : Type 0} (bytes line : List ℕ) (before after : SinkView)
    (result : Result T Failed) : Type 0 where
  pub ok : OnOk result ((first : List ℕ) × (first ++ line ≡ bytes)
      × (after ≡ with_bytes_put before first))
  pub err : OnErr result (PutFailed before after bytes)
