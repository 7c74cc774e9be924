-- Worked values of blamed calls, and of the results of calls.
use Rattle.std.proofs.Common.{◌≡◌, ℕ, ◌<◌, ◌≤◌, List, [], ◌∷◌, length, Option, Some, None, Ok, Err, option_map, refl, sym, ap, arith, inr, ⊎_elim, true≢false}
use Rattle.outside_io.proofs.Names.{Failed, Blame, with_failed_call, read_call, write_call, IsFileLonger, ReadCause, BufferMatches, ReadsWholeFile, TookBytes, WriteCause, Rose, ReadsNextPart, ChangesOnlyFile, Files, IsFileName, SinkView, StoreView, StreamPuts, no_faults, PutCause, IsNextPart, LacksFile}
use Rattle.outside_io.specs.declared.blame.CallKind.{CallKind}
use Rattle.outside_io.specs.declared.blame.CallKind.TheVariants as kind
use Rattle.outside_io.specs.declared.store.ReadStop.TheVariants as stop
use Rattle.outside_io.specs.declared.whole_files.GetFault.TheVariants as get

-- the two numbers are not the same
abbrev Differ : ℕ → ℕ → Type 0
Differ m n = m ≡ n → ⊥

-- a read and a write of the name `a` (97)
pub known_read : (read_call (97 ∷ []) ≡ record { kind = kind.Read; name = 97 ∷ [] })
    × (write_call (97 ∷ []) ≡ record { kind = kind.Write; name = 97 ∷ [] })
known_read = (refl, refl)

-- two calls failed; the blame is the last one's
pub known_noted : with_failed_call (with_failed_call no_faults (read_call (97 ∷ []))) (write_call (98 ∷ []))
    ≡ record { count = 2; last = Some (write_call (98 ∷ [])) }
known_noted = refl

-- A count rises, or is at its maximum.
pub known_still : Rose 18446744073709551615 18446744073709551615
known_still = inr refl

pub known_not_risen : Rose 1 1 → ⊥
known_not_risen rose = ⊎_elim (λ more. omega (arith, more)) (λ end. omega (arith, end)) rose

-- The view of a store that hides its files.
abbrev view : ℕ → Option Blame → StoreView
view faults blame = record { files = None; faults = faults; blame = blame }

-- A failed call is counted and blamed; no other result is.
pub known_read_failed : ReadCause {T = ℕ} (97 ∷ []) (view 1 None) (view 2 (Some (write_call (97 ∷ [])))) (Err stop.Failed) → ⊥
known_read_failed faults = other (ap (option_map (λ (call : Blame). call.kind)) faults.blame)
  where
    other : ◌≡◌ {A = Option CallKind} (Some kind.Write) (Some kind.Read) → ⊥
    other is = cc

pub known_write_failed : (f : Failed) → WriteCause {T = ℕ} (97 ∷ []) (view 1 None) (view 2 (Some (read_call (97 ∷ [])))) (Err f) → ⊥
known_write_failed f faults = other (ap (option_map (λ (call : Blame). call.kind)) faults.blame)
  where
    other : ◌≡◌ {A = Option CallKind} (Some kind.Read) (Some kind.Write) → ⊥
    other is = cc

pub known_not_counted : ReadCause {T = ℕ} (97 ∷ []) (view 1 None) (view 1 (Some (read_call (97 ∷ [])))) (Err stop.Failed) → ⊥
known_not_counted faults = known_not_risen faults.rose

pub known_missing_counted : ReadCause {T = ℕ} (97 ∷ []) (view 1 None) (view 2 None) (Err stop.Missing) → ⊥
known_missing_counted stays = two stays.count
  where
    two : Differ 2 1
    two is = omega (arith, is)

pub known_written_counted : WriteCause {T = ℕ} (97 ∷ []) (view 1 None) (view 2 None) (Ok 0) → ⊥
known_written_counted stays = two stays.count
  where
    two : Differ 2 1
    two is = omega (arith, is)

-- two bytes are longer than one, and not than two
pub known_longer : IsFileLonger (Some (7 ∷ 8 ∷ [])) 1
known_longer = omega arith

pub known_not_longer : IsFileLonger (Some (7 ∷ 8 ∷ [])) 2 → ⊥
known_not_longer longer = omega (arith, longer)

-- a name has from 1 to 4096 bytes
pub known_names : (name : List ℕ) → 1 ≤ length name → length name ≤ 4096 → IsFileName name
known_names name some short = record { some = some; short = short }

pub known_no_name : IsFileName [] → ⊥
known_no_name name = omega (arith, name.some)

-- two bytes at the offset 1, and none at the end; nothing is read in vain
pub known_part : BufferMatches (1 ∷ 2 ∷ 3 ∷ []) 1 (2 ∷ 3 ∷ 9 ∷ []) 2
known_part = record { bytes = refl; left = omega arith; some = λ below room. omega arith }

pub known_end : BufferMatches (1 ∷ 2 ∷ 3 ∷ []) 3 (9 ∷ []) 0
known_end = record { bytes = refl; left = omega arith; some = λ below room. absurd (omega (arith, below)) }

pub known_vain : BufferMatches (1 ∷ 2 ∷ 3 ∷ []) 2 (9 ∷ []) 0 → ⊥
known_vain part = none (part.some (omega arith) (omega arith))
  where
    none : 0 < 0 → ⊥
    none is = omega (arith, is)

pub known_past : BufferMatches (1 ∷ 2 ∷ []) 1 (2 ∷ 9 ∷ []) 2 → ⊥
known_past part = few part.left
  where
    few : 2 ≤ 1 → ⊥
    few is = omega (arith, is)

-- Each name has a file of two bytes: if no further byte is read, these are the entire file.
abbrev files : Files
files name = Some (1 ∷ 2 ∷ [])

pub known_not_whole : IsNextPart (Some files) [] (1 ∷ []) (9 ∷ []) 0 → ⊥
known_not_whole part = whole (part.end refl files refl)
  where
    whole : ◌≡◌ {A = Option (List ℕ)} (Some (1 ∷ 2 ∷ [])) (Some (1 ∷ [])) → ⊥
    whole is = cc

-- Visible files, and no failed call.
abbrev told : StoreView
told = record { files = Some files; faults = 1; blame = None }

-- A file is missing if files are visible and it isn't among them.
pub known_untold : LacksFile None [] → ⊥
known_untold lacks = true≢false (sym lacks.visible)

pub known_there : LacksFile (Some files) [] → ⊥
known_there lacks = there (lacks.missing files refl)
  where
    there : ◌≡◌ {A = Option (List ℕ)} (Some (1 ∷ 2 ∷ [])) None → ⊥
    there is = cc

-- the file is read whole, or is longer than the limit
pub known_part_alone : ReadsWholeFile [] 2 told told (Ok (1 ∷ [])) → ⊥
known_part_alone answer = whole (answer.1 files refl)
  where
    whole : ◌≡◌ {A = Option (List ℕ)} (Some (1 ∷ 2 ∷ [])) (Some (1 ∷ [])) → ⊥
    whole is = cc

pub known_over_limit : ReadsWholeFile [] 1 told told (Ok (1 ∷ 2 ∷ [])) → ⊥
known_over_limit answer = over answer.0
  where
    over : 2 ≤ 1 → ⊥
    over is = omega (arith, is)

pub known_within_limit : ReadsWholeFile [] 2 told told (Err get.TooLong) → ⊥
known_within_limit answer = known_not_longer (answer.0 files refl)

pub known_not_missing : ReadsWholeFile [] 2 told told (Err get.Missing) → ⊥
known_not_missing answer = known_there answer.0

-- A part of a file is missing if the file is.
pub known_next_over : ReadsNextPart [] 1 2 told told (2 ∷ 9 ∷ []) (Ok 2) → ⊥
known_next_over answer = over answer.1
  where
    over : 3 ≤ 2 → ⊥
    over is = omega (arith, is)

pub known_next_within : ReadsNextPart [] 0 2 told told [] (Err get.TooLong) → ⊥
known_next_within answer = known_not_longer (answer.1 [] refl (λ shown same content is. refl) files refl)

-- No other file changes, and hidden files remain hidden.
pub known_changed : ChangesOnlyFile (Some (λ name. None)) (Some files) (97 ∷ []) → ⊥
known_changed changes = new (changes [] (λ is. cc))
  where
    new : ◌≡◌ {A = Option (List ℕ)} (Some (1 ∷ 2 ∷ [])) None → ⊥
    new is = cc

pub known_told : ChangesOnlyFile None (Some files) [] → ⊥
known_told changes = changes

-- A sink with these bytes visible, after n faults.
abbrev sink : ℕ → List ℕ → SinkView
sink faults bytes = record { taken = Some bytes; faults = faults }

-- all bytes are added, or a fault is counted
pub known_left_out : TookBytes {T = ℕ} (sink 1 (1 ∷ [])) (sink 1 (1 ∷ 2 ∷ [])) (2 ∷ 3 ∷ []) (Ok 0) → ⊥
known_left_out took = fewer took
  where
    fewer : ◌≡◌ {A = Option (List ℕ)} (Some (1 ∷ 2 ∷ [])) (Some (1 ∷ 2 ∷ 3 ∷ [])) → ⊥
    fewer is = cc

pub known_put_broke : (f : Failed) → PutCause {T = ℕ} (sink 1 []) (sink 1 []) (Err f) → ⊥
known_put_broke f cause = known_not_risen cause.0

pub known_stream : StreamPuts {T = ℕ} (record { held = Some (1 ∷ []); faults = 1 }) (record { held = Some (1 ∷ []); faults = 1 })
    (2 ∷ []) (Ok 0) → ⊥
known_stream puts = fewer puts.0
  where
    fewer : ◌≡◌ {A = List ℕ} (1 ∷ []) (1 ∷ 2 ∷ []) → ⊥
    fewer is = cc
