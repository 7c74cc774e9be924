-- What puts and reported lines exclude.
use Rattle.std.proofs.Common.{◌≡◌, ℕ, List, [], ◌∷◌, ◌++◌, Some, Ok, Err, refl, ⊎_elim}
use Rattle.program_shell.proofs.Names.{Failed, with_bytes_taken, Rose, SinkView, Puts, ReportsLineWithStatus, with_bytes_put}
use Rattle.program_shell.specs.declared.status.Status.TheVariants as status

-- bytes are put after those that were taken, and no fault is counted
pub known_bytes : with_bytes_put (record { taken = Some (1 ∷ []); faults = 3 }) (2 ∷ []) ≡ record { taken = Some (1 ∷ 2 ∷ []); faults = 3 }
known_bytes = refl

pub known_put : (bytes : List ℕ) (before after : SinkView) (n : ℕ) → Puts {T = ℕ} bytes before after (Ok n)
    → after ≡ with_bytes_put before bytes
known_put bytes before after n puts = puts.ok

-- where a put fails, some first bytes of these were taken, and a fault is counted
pub known_failed : (bytes : List ℕ) (before after : SinkView) (f : Failed) → Puts {T = ℕ} bytes before after (Err f)
    → (first rest : List ℕ) × (first ++ rest ≡ bytes) × (after.taken ≡ with_bytes_taken before.taken first)
    × Rose before.faults after.faults
known_failed bytes before after f puts = (puts.err.first, puts.err.rest, puts.err.split, puts.err.taken, puts.err.rose)

-- a status other than `Fault` means that the line was put, and is the planned one
pub known_reported : (text : List ℕ) (err err' : SinkView) → ReportsLineWithStatus text status.Refused err err' status.Refused
    → err' ≡ with_bytes_put err text
known_reported text err err' reports = ⊎_elim (λ put. put.1) (λ failed. absurd (other failed.0)) reports
  where
    other : status.Refused ≡ status.Fault → ⊥
    other is = cc

pub known_other_status : (text : List ℕ) (err err' : SinkView) → ReportsLineWithStatus text status.Refused err err' status.Done → ⊥
known_other_status text err err' reports = ⊎_elim (λ put. planned put.0) (λ failed. fault failed.0) reports
  where
    planned : status.Done ≡ status.Refused → ⊥
    planned is = cc

    fault : status.Done ≡ status.Fault → ⊥
    fault is = cc
