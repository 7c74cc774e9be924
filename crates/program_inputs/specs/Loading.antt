-- The meaning of loading the design of a file, and of feeding an entire file to a format.
use Rattle.std.specs.Prelude.{◌≡◌, ℕ, false, List, ◌++◌, length, Result, Ok, Err}
use Rattle.design_model.specs.declared.limits.TheConstants.{MAX_FILE}
use Rattle.outside_io.specs.declared.whole_files.GetFault.{GetFault}
use Rattle.outside_io.specs.Causes.{ReadsWholeFile}
use Rattle.outside_io.specs.Views.{StoreView}
use Rattle.format_traits.specs.declared.fault.ReadFault.{ReadFault}
use Rattle.format_traits.specs.declared.loaded.Loaded.{Loaded}
use Rattle.format_traits.specs.Feeding.{FeedState}
use Rattle.program_inputs.specs.declared.loading.LoadFault.{LoadFault}
use Rattle.program_inputs.specs.declared.loading.LoadFault.TheVariants as load

-- The entire file was read, and `answer` is the result of reading its bytes by the format.
pub record IsLoaded (reads : List ℕ → Result Loaded ReadFault) (name : List ℕ)
    (old new : StoreView)
    (answer : Result Loaded ReadFault) : Type 0 where
  pub bytes : List ℕ
  pub whole : ReadsWholeFile name MAX_FILE old new (Ok bytes)
  pub is : reads bytes ≡ answer

-- Meaning of each answer of `load`: the design, the refusal of the bytes, or the fault of the
-- store.
abbrev pub Loads : (List ℕ → Result Loaded ReadFault) → List ℕ → StoreView → StoreView
    → Result Loaded LoadFault → Type 0
Loads reads name old new (Ok loaded) = IsLoaded reads name old new (Ok loaded)
Loads reads name old new (Err (load.Read f)) = IsLoaded reads name old new (Err f)
Loads reads name old new (Err (load.Get f)) = ReadsWholeFile name MAX_FILE old new (Err f)

-- An object whose reading is `reads` was fed these bytes.
pub record IsFedWith (reads : List ℕ → Result Loaded ReadFault) (bytes : List ℕ)
    (f : FeedState) : Type 0 where
  pub sound : f.spoiled ≡ false
  pub taken : f.taken ≡ length bytes
  pub rest : (more : List ℕ) → f.rest more ≡ reads (bytes ++ more)

-- The entire file was read and fed.
pub record IsFileFed (reads : List ℕ → Result Loaded ReadFault) (name : List ℕ)
    (old new : StoreView)
    (f : FeedState) : Type 0 where
  pub bytes : List ℕ
  pub whole : ReadsWholeFile name MAX_FILE old new (Ok bytes)
  pub fed : IsFedWith reads bytes f

-- Meaning of each answer of feeding a file: the entire file was fed, or the store reported a fault.
abbrev pub FeedsFile : {T : Type 0} → (List ℕ → Result Loaded ReadFault) → List ℕ
    → StoreView → StoreView
    → Result T GetFault → FeedState → Type 0
FeedsFile reads name old new (Ok _) f = IsFileFed reads name old new f
FeedsFile reads name old new (Err fault) f = ReadsWholeFile name MAX_FILE old new (Err fault)
