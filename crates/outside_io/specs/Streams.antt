-- Streams of the system: the bytes that a writer has taken, if they are known, and the fault count.
use Rattle.std.specs.Prelude.{◌≡◌, ℕ, List, ◌++◌, Option, Result, Ok, Err}
use Rattle.std.specs.Io.KnownBytes.{Appends}
use Rattle.outside_io.specs.declared.store.Failed.{Failed}
use Rattle.outside_io.specs.Counts.{next_count}

-- A stream: the bytes that its writer has taken, if they are known, and the number of failed puts.
pub record StreamValue : Type 0 where
  pub held : Option (List ℕ)
  pub faults : ℕ

-- A prefix of the bytes was added; the rest was not.
pub record AddsPrefix (old new : Option (List ℕ)) (bytes left : List ℕ) : Type 0 where
  pub first : List ℕ
  pub parts : first ++ left ≡ bytes
  pub added : Appends old new first

-- The results of a put: all bytes were added, or a prefix of them and one fault was counted.
abbrev pub StreamPuts : {T : Type 0} → StreamValue → StreamValue → List ℕ → Result T Failed → Type 0
StreamPuts old new bytes (Ok _) = Appends old.held new.held bytes × (new.faults ≡ old.faults)
StreamPuts old new bytes (Err _) =
    ((left : List ℕ) × AddsPrefix old.held new.held bytes left)
    × (new.faults ≡ next_count old.faults)
