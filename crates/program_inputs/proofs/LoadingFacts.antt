-- What answers loading may give: the name `a` (97) has a file of three bytes, and no other name has one.
use Rattle.std.proofs.Common.{◌≡◌, ℕ, ◌<◌, ◌≤◌, List, [], ◌∷◌, length, Option, Some, None, Result, Ok, Err, option_map, unwrap_or, bytes_eq, if◌then◌else◌, refl, sym, ap, arith, lit≤}
use Rattle.outside_io.specs.declared.blame.CallKind.{CallKind}
use Rattle.outside_io.specs.declared.blame.CallKind.TheVariants as kind
use Rattle.outside_io.specs.declared.whole_files.GetFault.TheVariants as get
use Rattle.outside_io.specs.Blames.{Blame, write_call}
use Rattle.outside_io.specs.Files.{Files, FileHolds}
use Rattle.outside_io.specs.Views.{StoreView}
use Rattle.format_traits.specs.declared.fault.ReadFault.{ReadFault}
use Rattle.format_traits.specs.declared.fault.ReadFault.TheVariants as read
use Rattle.format_traits.specs.declared.loaded.Loaded.{Loaded}
use Rattle.program_inputs.specs.declared.loading.LoadFault.TheVariants as load
use Rattle.program_inputs.specs.Loading.{IsLoaded, Loads}

-- the two numbers are not the same
abbrev Differ : ℕ → ℕ → Type 0
Differ m n = m ≡ n → ⊥

abbrev files : Files
files name = if bytes_eq name (97 ∷ []) then Some (1 ∷ 2 ∷ 3 ∷ []) else None

-- the view of a store after n faults, of which this is the last
abbrev view : ℕ → Option Blame → StoreView
view faults blame = record { files = Some files; faults = faults; blame = blame }

-- a format that refuses each file at its length
abbrev reads : List ℕ → Result Loaded ReadFault
reads bytes = Err (read.Short (length bytes))

-- the file is read, and refused
pub known_read : Loads reads (97 ∷ []) (view 4 None) (view 4 None) (Err (load.Read (read.Short 3)))
known_read = record { bytes = 1 ∷ 2 ∷ 3 ∷ []; whole = (lit≤ tt, held, record { count = refl; blame = refl }); is = refl }
  where
    held : FileHolds (Some files) (97 ∷ []) (1 ∷ 2 ∷ 3 ∷ [])
    held told same = sym (ap (λ (shown : Option Files). unwrap_or shown files (97 ∷ [])) same)

-- it doesn't read as a design, isn't missing, and isn't too long
pub known_no_design : (loaded : Loaded) → Loads reads (97 ∷ []) (view 4 None) (view 4 None) (Ok loaded) → ⊥
known_no_design loaded answer = refused answer.is
  where
    refused : {f : ReadFault} → ◌≡◌ {A = Result Loaded ReadFault} (Err f) (Ok loaded) → ⊥
    refused is = cc

pub known_there : Loads reads (97 ∷ []) (view 4 None) (view 4 None) (Err (load.Get get.Missing)) → ⊥
known_there answer = there (answer.0.missing files refl)
  where
    there : ◌≡◌ {A = Option (List ℕ)} (Some (1 ∷ 2 ∷ 3 ∷ [])) None → ⊥
    there is = cc

pub known_short : Loads reads (97 ∷ []) (view 4 None) (view 4 None) (Err (load.Get get.TooLong)) → ⊥
known_short answer = longer (answer.0 files refl)
  where
    longer : 67108864 < 3 → ⊥
    longer is = omega (arith, is)

-- nor is it refused otherwise than its format does
pub known_other_refusal : Loads reads (97 ∷ []) (view 4 None) (view 4 None) (Err (load.Read (read.Signature 3))) → ⊥
known_other_refusal answer = other answer.is
  where
    other : {n : ℕ} → ◌≡◌ {A = Result Loaded ReadFault} (Err (read.Short n)) (Err (read.Signature 3)) → ⊥
    other is = cc

-- without a file nothing is read of it
pub known_missing : Loads reads (98 ∷ []) (view 4 None) (view 4 None) (Err (load.Read (read.Short 3))) → ⊥
known_missing answer = nothing answer.bytes (answer.whole.1 files refl)
  where
    nothing : (bytes : List ℕ) → None ≡ Some bytes → ⊥
    nothing bytes is = cc

-- what is loaded is no longer than a file may be, and no call failed
pub known_longest : (answer : Result Loaded ReadFault) → (loaded : IsLoaded reads (97 ∷ []) (view 4 None) (view 4 None) answer)
    → length loaded.bytes ≤ 67108864
known_longest answer loaded = loaded.whole.0

pub known_no_fault : Loads reads (97 ∷ []) (view 4 None) (view 5 None) (Err (load.Read (read.Short 3))) → ⊥
known_no_fault answer = rose answer.whole.2.count
  where
    rose : Differ 5 4
    rose is = omega (arith, is)

-- a call that failed was a read
pub known_blame : Loads reads (97 ∷ []) (view 4 None) (view 5 (Some (write_call (97 ∷ [])))) (Err (load.Get get.Failed)) → ⊥
known_blame answer = other (ap (option_map (λ (call : Blame). call.kind)) answer.blame)
  where
    other : ◌≡◌ {A = Option CallKind} (Some kind.Write) (Some kind.Read) → ⊥
    other is = cc
