-- What feeding a file, and decoding it by the format of its name, exclude.
use Rattle.std.proofs.Common.{◌≡◌, ℕ, false, List, [], ◌∷◌, Some, None, Result, Ok, Err, slice_get}
use Rattle.format_traits.specs.Feeding.{FeedState}
use Rattle.format_traits.specs.Meanings.{Meaning}
use Rattle.format_traits.specs.declared.fault.ReadFault.{ReadFault}
use Rattle.format_traits.specs.declared.loaded.Loaded.{Loaded}
use Rattle.outside_io.specs.Blames.{read_call}
use Rattle.outside_io.specs.Causes.{ReadsWholeFile}
use Rattle.outside_io.specs.Files.{LacksFile}
use Rattle.outside_io.specs.Views.{StoreView}
use Rattle.outside_io.specs.declared.whole_files.GetFault.TheVariants as get
use Rattle.program_inputs.specs.FoundFiles.{LoadsFound}
use Rattle.program_inputs.specs.Loading.{FeedsFile, IsFedWith}
use Rattle.program_inputs.specs.declared.format_indexes.Found.{Found}
use Rattle.program_shell.specs.StepOutcomes.{ReadsInput}
use Rattle.program_shell.specs.declared.failure.Failure.{Failure}
use Rattle.program_shell.specs.declared.failure.Failure.TheVariants as failure

-- an object that was fed two bytes is sound, counts them, and reads a third after them
pub known_fed : (reads : List ℕ → Result Loaded ReadFault) (f : FeedState) → IsFedWith reads (1 ∷ 2 ∷ []) f
    → (f.spoiled ≡ false) × (f.taken ≡ 2) × (f.rest (3 ∷ []) ≡ reads (1 ∷ 2 ∷ 3 ∷ []))
known_fed reads f fed = (fed.sound, fed.taken, fed.rest (3 ∷ []))

-- a file is fed entire, or its read has the fault that is reported
pub known_file_fed : (reads : List ℕ → Result Loaded ReadFault) (name : List ℕ) (old new : StoreView) (f : FeedState)
    → FeedsFile {T = ℕ} reads name old new (Ok 0) f
    → (bytes : List ℕ) × ReadsWholeFile name 67108864 old new (Ok bytes) × IsFedWith reads bytes f
known_file_fed reads name old new f feeds = (feeds.bytes, feeds.whole, feeds.fed)

pub known_not_fed : (reads : List ℕ → Result Loaded ReadFault) (name : List ℕ) (old new : StoreView) (f : FeedState)
    → (FeedsFile {T = ℕ} reads name old new (Err get.Failed) f → new.blame ≡ Some (read_call name))
    × (FeedsFile {T = ℕ} reads name old new (Err get.Missing) f → LacksFile old.files name)
known_not_fed reads name old new f = (λ feeds. feeds.blame, λ feeds. feeds.0)

-- a name without a format is refused, and nothing is read
pub known_no_format : (formats : List Meaning) (name : List ℕ) (s s' : StoreView) (result : Result Found Failure)
    → LoadsFound formats None name s s' result → (result ≡ Err failure.BadArguments) × (s' ≡ s)
known_no_format formats name s s' result loads = (loads.0, loads.1)

-- a design is what the format of the name reads of the file, and the index is that of this format
pub known_found : (m other : Meaning) (name : List ℕ) (s s' : StoreView) (found : Found)
    → LoadsFound (other ∷ m ∷ []) (Some m) name s s' (Ok found)
    → (bytes : List ℕ) × ReadsInput name s s' (Ok bytes)
    × (m.reads bytes ≡ Ok found.loaded) × (slice_get (other ∷ m ∷ []) found.index ≡ Some m)
known_found m other name s s' found loads = (loads.0.bytes, loads.0.read, loads.0.is, loads.1)

-- a name with a format has no bad arguments, and out of memory changes nothing
pub known_not_loaded : (formats : List Meaning) (m : Meaning) (name : List ℕ) (s s' : StoreView)
    → (LoadsFound formats (Some m) name s s' (Err failure.BadArguments) → ⊥)
    × (LoadsFound formats (Some m) name s s' (Err failure.Memory) → s' ≡ s)
known_not_loaded formats m name s s' = (λ loads. loads, λ loads. loads)
