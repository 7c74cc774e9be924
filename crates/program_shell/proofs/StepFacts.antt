-- What the steps of a run exclude: reading and parsing an input, running a plan, and products that can be delivered.
use Rattle.std.proofs.Common.{◌≡◌, ℕ, ◌∷◌, [], List, map, Result, Ok, Err, Some, None, true, false, refl, arith, true≢false}
use Rattle.program_shell.proofs.Names.{Rose, StoreView, Failure, Product, Plan, accepts, refuses, read_call, OutputValue, ProductValue, output_values, product_value, CanFinish, IsFailureOf, IsFaultFailure, RunsPlan, RunsPurePlan, RunsRequest, status_of, HaveDistinctNames, HaveFileNames}
use Rattle.program_shell.proofs.OutcomeFacts.{one_plan}
use Rattle.program_shell.specs.Products.{output_value}
use Rattle.program_shell.specs.StepOutcomes.{IsDeliverable, IsRefusalWith}
use Rattle.program_shell.specs.declared.failure.Failure.TheVariants as failure
use Rattle.program_shell.specs.declared.product.Output.{Output}
use Rattle.program_shell.specs.declared.status.Status.TheVariants as status

-- the status of each failure
pub known_statuses : (text : List ℕ) (name : _) → (status_of failure.BadArguments ≡ status.Usage)
    × (status_of (failure.MissingInput name) ≡ status.Fault) × (status_of (failure.ReadFailed name) ≡ status.Fault)
    × (status_of (failure.Refused text) ≡ status.Refused) × (status_of failure.Memory ≡ status.Memory)
known_statuses text name = (refl, refl, refl, refl, refl)

-- a requested order has no bad arguments, and reads no file that its plan doesn't
pub known_no_failure : (text : List ℕ) (name : _) (s s' : StoreView) → (IsFailureOf (refuses text) s s' failure.BadArguments → ⊥)
    × (IsFailureOf (refuses text) s s' (failure.MissingInput name) → ⊥)
    × (IsFailureOf (refuses text) s s' (failure.ReadFailed name) → ⊥)
known_no_failure text name s s' = (λ is. is, λ is. is.0.attempted, λ is. is.0)

-- no failure changes the store, but a failed read is counted and blamed
pub known_failure_keeps : (plan : Plan) (text : List ℕ) (name : _) (s s' : StoreView)
    → (IsFailureOf plan s s' (failure.MissingInput name) → s' ≡ s)
    × (IsFailureOf plan s s' (failure.ReadFailed name)
    → (s'.blame ≡ Some (read_call name.now)) × Rose s.faults s'.faults × (s'.files ≡ s.files))
    × (IsFailureOf plan s s' (failure.Refused text) → s' ≡ s)
    × (IsFailureOf plan s s' failure.Memory → s' ≡ s)
known_failure_keeps plan text name s s' =
    (λ is. is.1, λ is. (is.1.blame, is.1.rose, is.2), λ is. is.1, λ is. is)

-- a refusal has the text of the plan, and an accepted order isn't refused
pub known_refusal : (text other : List ℕ) (Is : ProductValue → Type 0) (s s' : StoreView)
    → (IsFailureOf (refuses text) s s' (failure.Refused other) → other ≡ text)
    × (IsFailureOf (accepts Is) s s' (failure.Refused other) → ⊥)
known_refusal text other Is s s' = (λ is. is.0, λ is. is.0)

-- a refusal has the expected text, and nothing else but memory is one
pub known_refused_with : (text expected : List ℕ) (name : _) → (IsRefusalWith expected (failure.Refused text) → text ≡ expected)
    × (IsRefusalWith expected failure.BadArguments → ⊥) × (IsRefusalWith expected (failure.MissingInput name) → ⊥)
    × (IsRefusalWith expected (failure.ReadFailed name) → ⊥) × IsRefusalWith expected failure.Memory
known_refused_with text expected name = (λ is. is, λ is. is, λ is. is, λ is. is, tt)

-- a fault is refused with its text, and one that is out of memory isn't refused
pub known_fault_failure : (text expected : List ℕ) (name : _) → (IsFaultFailure false expected (failure.Refused text) → text ≡ expected)
    × (IsFaultFailure true expected (failure.Refused text) → ⊥) × (IsFaultFailure false expected failure.BadArguments → ⊥)
    × (IsFaultFailure false expected (failure.MissingInput name) → ⊥) × IsFaultFailure true expected failure.Memory
known_fault_failure text expected name = (λ is. is.0, λ is. true≢false is.1, λ is. is, λ is. is, tt)

-- an output with a content, under a name
abbrev named : List ℕ → OutputValue
named name = record { name = name; content = 7 ∷ [] }

abbrev making : List OutputValue → ProductValue
making outputs = record { outputs = outputs; report = [] }

-- each output has a file name, and no two have the same
pub known_unnamed : IsDeliverable (making (named (1 ∷ []) ∷ named [] ∷ [])) → ⊥
known_unnamed is = omega (arith, is.named.1.0.some)

pub known_same_names : IsDeliverable (making (named (1 ∷ []) ∷ named (2 ∷ []) ∷ named (1 ∷ []) ∷ [])) → ⊥
known_same_names is = is.apart.0.1.0 refl

pub known_same_later : IsDeliverable (making (named (1 ∷ []) ∷ named (2 ∷ []) ∷ named (2 ∷ []) ∷ [])) → ⊥
known_same_later is = is.apart.1.0.0 refl

-- a product of the program as contracts see it, and what it is to be able to finish
pub known_product : (product : Product) (output : Output)
    → (product_value product ≡ record { outputs = map output_value product.outputs; report = product.report })
    × (output_value output ≡ record { name = output.name.now; content = output.content })
known_product product output = (refl, refl)

pub known_finish : (product : Product) (why : Failure) → (CanFinish (Ok product) → HaveFileNames (output_values product.outputs)
    × HaveDistinctNames (output_values product.outputs)) × CanFinish (Err why)
known_finish product why = (λ can. (can.named, can.apart), tt)

-- a plan that refuses makes no product, and one that accepts makes what it says, and changes no file
pub known_run_refused : (text : List ℕ) (s s' : StoreView) (product : Product) → RunsPlan (refuses text) s s' (Ok product) → ⊥
known_run_refused text s s' product runs = runs.is.0

pub known_run_accepted : (s s' : StoreView) (product : Product)
    → RunsPlan (accepts (λ made. made.report ≡ 5 ∷ [])) s s' (Ok product)
    → (product.report ≡ 5 ∷ []) × HaveFileNames (output_values product.outputs) × (s' ≡ s)
known_run_accepted s s' product runs = (runs.is.0, runs.is.1.named, runs.is.2)

pub known_run_failed : (plan : Plan) (s s' : StoreView) → (RunsPlan plan s s' (Err failure.BadArguments) → ⊥)
    × (RunsPlan plan s s' (Err failure.Memory) → s' ≡ s)
known_run_failed plan s s' = (λ runs. runs.is, λ runs. runs.is)

-- a plan without reads runs over any store
pub known_pure : (text : List ℕ) (product : Product) (s : StoreView) → (RunsPurePlan (refuses text) (Ok product) → ⊥)
    × (RunsPurePlan (refuses text) (Err (failure.Refused (5 ∷ []))) → 5 ∷ [] ≡ text)
known_pure text product s = (λ runs. (runs.at s).0, λ runs. (runs.at s).0)

-- without an order the arguments are bad, and an order has the result of its plan
pub known_no_request : (plan : Plan) (s s' : StoreView) (result : Result Product Failure) → RunsRequest (one_plan plan) None s s' result
    → (result ≡ Err failure.BadArguments) × (s' ≡ s)
known_no_request plan s s' result runs = runs

pub known_request : (text : List ℕ) (s s' : StoreView) (product : Product)
    → RunsRequest (one_plan (refuses text)) (Some 3) s s' (Ok product) → ⊥
known_request text s s' product runs = runs.is.0
