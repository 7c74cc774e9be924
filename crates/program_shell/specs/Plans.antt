-- Plans: which input files a command reads, one after another, and what it accepts or refuses. The
-- first step that does not succeed determines the outcome.
use Rattle.std.specs.Prelude.{◌≡◌, ◌⊎◌, ℕ, ◌≤◌, List, length, Option, Result, Ok, Err}
use Rattle.outside_io.specs.Causes.{IsFileLonger}
use Rattle.outside_io.specs.Files.{Files, FileHolds, LacksFile, WhereVisible}
use Rattle.design_model.specs.declared.limits.TheConstants.{MAX_FILE}
use Rattle.program_shell.specs.Products.{ProductValue}
use Rattle.program_shell.specs.FileTexts.{too_long_text}

-- A plan is one of four steps. `reads`: read the named file, and continue with the plan for its
-- bytes. `refuses`: refuse with this text, which names the fault and its place. `accepts`: accept,
-- and make some product that has this property. `satisfies`: make a product or refuse with a text,
-- so that the result satisfies this relation.
pub data Plan : Type 1 where
  reads : (name : List ℕ) → (List ℕ → Plan) → Plan
  refuses : (text : List ℕ) → Plan
  accepts : (ProductValue → Type 0) → Plan
  satisfies : (Result ProductValue (List ℕ) → Type 0) → Plan

-- The content of an input file: the named file contains these bytes, if files are visible, and they
-- are at most MAX_FILE.
pub record IsInputContent (files : Option Files) (name bytes : List ℕ) : Type 0 where
  pub held : FileHolds files name bytes
  pub short : length bytes ≤ MAX_FILE

-- The named file, if files are visible, is longer than MAX_FILE.
abbrev pub IsInputTooLong : Option Files → List ℕ → Type 0
IsInputTooLong files name = WhereVisible files (λ visible. IsFileLonger (visible name) MAX_FILE)

-- The plan makes this product from these files.
abbrev pub Makes : Plan → Option Files → ProductValue → Type 0
Makes (reads name next) files product = (bytes : List ℕ) × IsInputContent files name bytes
    × Makes (next bytes) files product
Makes (refuses why) files product = ⊥
Makes (accepts Is) files product = Is product
Makes (satisfies Is) files product = Is (Ok product)

-- The plan accepts these files.
abbrev pub IsAccepted : Plan → Option Files → Type 0
IsAccepted (reads name next) files = (bytes : List ℕ) × IsInputContent files name bytes
    × IsAccepted (next bytes) files
IsAccepted (refuses why) files = ⊥
IsAccepted (accepts Is) files = Unit {0}
IsAccepted (satisfies Is) files = (product : ProductValue) × Is (Ok product)

-- The plan refuses these files with this text.
abbrev pub Refuses : Plan → Option Files → List ℕ → Type 0
Refuses (reads name next) files why = ((why ≡ too_long_text name) × IsInputTooLong files name)
    ⊎ ((bytes : List ℕ) × IsInputContent files name bytes × Refuses (next bytes) files why)
Refuses (refuses text) files why = why ≡ text
Refuses (accepts Is) files why = ⊥
Refuses (satisfies Is) files why = Is (Err why)

-- The plan attempts to read the requested file: all files before it are read and not refused.
abbrev pub AttemptsRead : Plan → Option Files → List ℕ → Type 0
AttemptsRead (reads name next) files requested =
    (requested ≡ name) ⊎ ((bytes : List ℕ) × IsInputContent files name bytes
    × AttemptsRead (next bytes) files requested)
AttemptsRead (refuses why) files requested = ⊥
AttemptsRead (accepts Is) files requested = ⊥
AttemptsRead (satisfies Is) files requested = ⊥

-- The plan attempts to read a file that does not exist.
pub record LacksInput (plan : Plan) (files : Option Files) (name : List ℕ) : Type 0 where
  pub attempted : AttemptsRead plan files name
  pub lacks : LacksFile files name
