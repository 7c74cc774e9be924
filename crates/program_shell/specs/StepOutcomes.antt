-- The outcomes of the steps of a run: reading an input, and running a plan.
use Rattle.std.specs.Prelude.{◌≡◌, ◌⊎◌, ℕ, Bool, false, List, Option, Some, None, Result, Ok, Err}
use Rattle.outside_io.specs.Blames.{read_call}
use Rattle.outside_io.specs.Causes.{CallFailed}
use Rattle.outside_io.specs.Files.{LacksFile}
use Rattle.outside_io.specs.Views.{StoreView}
use Rattle.program_shell.specs.declared.failure.Failure.{Failure}
use Rattle.program_shell.specs.declared.failure.Failure.TheVariants as failure
use Rattle.program_shell.specs.declared.product.Product.{Product}
use Rattle.program_shell.specs.declared.status.Status.{Status}
use Rattle.program_shell.specs.declared.status.Status.TheVariants as status
use Rattle.program_shell.specs.FileTexts.{too_long_text}
use Rattle.program_shell.specs.Plans.{AttemptsRead, IsInputContent, IsInputTooLong, Makes, LacksInput, Plan, Refuses}
use Rattle.program_shell.specs.Products.{HaveDistinctNames, HaveFileNames, ProductValue, product_value}
use Rattle.program_shell.specs.Programs.{Program}

-- The exit status of a failure.
abbrev pub status_of : Failure → Status
status_of failure.BadArguments = status.Usage
status_of (failure.MissingInput name) = status.Fault
status_of (failure.ReadFailed name) = status.Fault
status_of (failure.Refused text) = status.Refused
status_of failure.Memory = status.Memory

-- The meaning of each failure for a plan, and its effect on the store.
abbrev pub IsFailureOf : Plan → StoreView → StoreView → Failure → Type 0
IsFailureOf plan store store' failure.BadArguments = ⊥
IsFailureOf plan store store' (failure.MissingInput name) = LacksInput plan store.files name.now
    × (store' ≡ store)
IsFailureOf plan store store' (failure.ReadFailed name) = AttemptsRead plan store.files name.now
    × CallFailed store store' (read_call name.now) × (store'.files ≡ store.files)
IsFailureOf plan store store' (failure.Refused text) = Refuses plan store.files text
    × (store' ≡ store)
IsFailureOf plan store store' failure.Memory = store' ≡ store

-- A refusal with that text, or out of memory.
abbrev pub IsRefusalWith : List ℕ → Failure → Type 0
IsRefusalWith expected (failure.Refused text) = text ≡ expected
IsRefusalWith expected failure.Memory = Unit {0}
IsRefusalWith expected other = ⊥

-- The failure for a fault, given whether it is out of memory: a refusal with the text about it, or
-- out of memory. A fault that is out of memory isn't refused.
abbrev pub IsFaultFailure : Bool → List ℕ → Failure → Type 0
IsFaultFailure memory expected (failure.Refused text) =
    (text ≡ expected) × (memory ≡ false)
IsFaultFailure memory expected failure.Memory = Unit {0}
IsFaultFailure memory expected other = ⊥

-- A product that can be delivered: its outputs have distinct file names.
pub record IsDeliverable (product : ProductValue) : Type 0 where
  pub named : HaveFileNames product.outputs
  pub apart : HaveDistinctNames product.outputs

-- A product that can be delivered, or a failure.
abbrev pub CanFinish : Result Product Failure → Type 0
CanFinish (Ok product) = IsDeliverable (product_value product)
CanFinish (Err why) = Unit {0}

-- The result of a plan: the product that it makes, or a failure.
abbrev pub IsPlanResult : Plan → StoreView → StoreView → Result Product Failure → Type 0
IsPlanResult plan store store' (Ok product) = Makes plan store.files (product_value product)
    × IsDeliverable (product_value product) × (store' ≡ store)
IsPlanResult plan store store' (Err why) = IsFailureOf plan store store' why

-- The result of running a plan over a store.
pub record RunsPlan (plan : Plan) (store store' : StoreView)
    (result : Result Product Failure) : Type 0 where
  pub is : IsPlanResult plan store store' result

-- The result of running a plan that reads no file, over any store.
pub record RunsPurePlan (plan : Plan) (result : Result Product Failure) : Type 0 where
  pub at : (store : StoreView) → IsPlanResult plan store store result

-- The result of a request: a failure if it requests no order, else the result of its plan.
abbrev pub RunsRequest : {Order : Type 0} → Program Order → Option Order → StoreView → StoreView
    → Result Product Failure → Type 0
RunsRequest program None store store' result = (result ≡ Err failure.BadArguments)
    × (store' ≡ store)
RunsRequest program (Some order) store store' result = RunsPlan (program.plan order) store store'
    result

-- The result of reading an input file: its bytes, or a failure.
abbrev pub ReadsInput : List ℕ → StoreView → StoreView → Result (List ℕ) Failure → Type 0
ReadsInput name store store' (Ok bytes) = IsInputContent store.files name bytes × (store' ≡ store)
ReadsInput name store store' (Err failure.BadArguments) = ⊥
ReadsInput name store store' (Err (failure.MissingInput missing)) =
    (missing.now ≡ name) × LacksFile store.files name × (store' ≡ store)
ReadsInput name store store' (Err (failure.ReadFailed lost)) =
    (lost.now ≡ name) × CallFailed store store' (read_call name) × (store'.files ≡ store.files)
ReadsInput name store store' (Err (failure.Refused text)) =
    (text ≡ too_long_text name) × IsInputTooLong store.files name × (store' ≡ store)
ReadsInput name store store' (Err failure.Memory) = store' ≡ store

-- An input file was read, and its bytes parse to that result.
pub record IsParsedInput {V F : Type 0} (says : List ℕ → Result V F) (name : List ℕ)
    (store store' : StoreView) (answer : Result V F) : Type 0 where
  pub bytes : List ℕ
  pub read : ReadsInput name store store' (Ok bytes)
  pub is : says bytes ≡ answer

-- An input file was read, and its bytes are refused with the text about their fault.
pub record IsRefusedInput {V F : Type 0} (says : List ℕ → Result V F) (text_of : F → List ℕ)
    (name : List ℕ) (store store' : StoreView) (text : List ℕ) : Type 0 where
  pub fault : F
  pub input : IsParsedInput says name store store' (Err fault)
  pub is_text : text ≡ text_of fault

-- The result of reading and parsing an input file: the value, or a failure. A fault of the parser
-- is refused with the text about it.
abbrev pub ParsesInput : {V F : Type 0} → (List ℕ → Result V F) → (F → List ℕ) → List ℕ
    → StoreView → StoreView → Result V Failure → Type 0
ParsesInput says text_of name store store' (Ok value) = IsParsedInput says name store store'
    (Ok value)
ParsesInput says text_of name store store' (Err failure.BadArguments) = ⊥
ParsesInput says text_of name store store' (Err (failure.MissingInput missing)) =
    ReadsInput name store store' (Err (failure.MissingInput missing))
ParsesInput says text_of name store store' (Err (failure.ReadFailed lost)) =
    ReadsInput name store store' (Err (failure.ReadFailed lost))
ParsesInput says text_of name store store' (Err (failure.Refused text)) =
    ReadsInput name store store' (Err (failure.Refused text))
    ⊎ IsRefusedInput says text_of name store store' text
ParsesInput says text_of name store store' (Err failure.Memory) = store' ≡ store
