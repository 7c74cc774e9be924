-- Lemmas for the crates of programs: plans that read files one after another, plans that decide, and the end of a run.
use Rattle.std.proofs.Common.{◌≡◌, ℕ, Bool, false, List, Option, Result, Ok, Err, ap, refl, subst, sym, arith}
use Rattle.program_shell.proofs.Names.{nat_tests, UnlessOutOfMemory, Files, SinkView, StoreView, Failure, Product, Status, IsExact, IsSoundProgram, IsInputContent, Makes, Plan, accepts, reads, refuses, satisfies, ProductValue, output_names, Program, RunEnds, Views, views_of, FinishesRun, RunsRequest, IsSpecified, CanFinish, IsFaultFailure, IsParsedInput, ParsesInput, ReadsInput, RunsPlan, RunsPurePlan}
use Rattle.program_shell.specs.declared.failure.Failure.TheVariants as failure
use Rattle.program_shell.proofs.RunLemmas.{run_ends}
use Rattle.program_shell.proofs.RunOutcomes.{finished}

-- What the rest of a plan results in is a result of the plan.
pub prepares_next : (name bytes : List ℕ) (next : List ℕ → Plan) (store mid store' : StoreView) (result : Result Product Failure)
    → ReadsInput name store mid (Ok bytes) → RunsPlan (next bytes) mid store' result → RunsPlan (reads name next) store store' result
prepares_next name bytes next store mid store' result h1 h2 = grind (arith, nat_tests)

-- A plan that reads one file, and then no other.
pub settles_next : (name bytes : List ℕ) (next : List ℕ → Plan) (store store' : StoreView) (result : Result Product Failure)
    → ReadsInput name store store' (Ok bytes) → RunsPurePlan (next bytes) result → RunsPlan (reads name next) store store' result
settles_next name bytes next store store' result read settles =
    prepares_next name bytes next store store' store' result read (record { is = settles.at store' })

-- A file that is not read is not parsed.
pub unread_takes : {V F : Type 0} (says : List ℕ → Result V F) (reason : F → List ℕ) (name : List ℕ) (store store' : StoreView)
    (why : Failure) → ReadsInput name store store' (Err why) → ParsesInput says reason name store store' (Err why)
unread_takes says reason name store store' why h1 = grind (arith, nat_tests)

-- A file is parsed, and the result of the plan is that of its rest.
pub takes_next : {V F : Type 0} (name : List ℕ) (says : List ℕ → Result V F) (next : Result V F → Plan)
    (store mid store' : StoreView) (value : V) (result : Result Product Failure) → IsParsedInput says name store mid (Ok value)
    → RunsPlan (next (Ok value)) mid store' result → RunsPlan (reads name (λ bytes. next (says bytes))) store store' result
takes_next name says next store mid store' value result h1 h2 = grind (arith, nat_tests)

pub settles_taken : {V F : Type 0} (name : List ℕ) (says : List ℕ → Result V F) (next : Result V F → Plan)
    (store store' : StoreView) (value : V) (result : Result Product Failure) → IsParsedInput says name store store' (Ok value)
    → RunsPurePlan (next (Ok value)) result → RunsPlan (reads name (λ bytes. next (says bytes))) store store' result
settles_taken name says next store store' value result input settles =
    takes_next name says next store store' store' value result input (record { is = settles.at store' })

-- A fault that is reported is the specified one, unless it is out of memory.
pub fault_found : {V F : Type 0} (is_memory : F → Bool) (said : Result V F) (fault : F) → IsSpecified is_memory said (Err fault)
    → is_memory fault ≡ false → said ≡ Err fault
fault_found is_memory said fault spec known = subst (λ (b : Bool). UnlessOutOfMemory b (said ≡ Err fault)) known spec

-- A fault is refused with the text about it, if the plan for it is this refusal.
pub fault_refused : {V F : Type 0} (is_memory : F → Bool) (text : List ℕ) (next : Result V F → Plan) (said : Result V F) (fault : F)
    (why : Failure) → ((w : Failure) → RunsPurePlan (refuses text) (Err w) → RunsPurePlan (next (Err fault)) (Err w))
    → IsSpecified is_memory said (Err fault) → IsFaultFailure (is_memory fault) text why → RunsPurePlan (next said) (Err why)
fault_refused is_memory text next said fault failure.BadArguments so spec never = absurd never
fault_refused is_memory text next said fault (failure.MissingInput missing) so spec never = absurd never
fault_refused is_memory text next said fault (failure.ReadFailed lost) so spec never = absurd never
fault_refused {V} {F} is_memory text next said fault (failure.Refused printed) so spec (is, known) =
    subst (λ (r : Result V F). RunsPurePlan (next r) (Err (failure.Refused printed))) (sym (fault_found is_memory said fault spec known))
    (so (failure.Refused printed) (record { at = λ (store : StoreView). (is, refl) }))
fault_refused is_memory text next said fault failure.Memory so spec out = record { at = λ (store : StoreView). refl }

-- The result of a request can be finished.
pub can_finish : {Order : Type 0} (program : Program Order) (requested : Option Order) (store mid : StoreView)
    (result : Result Product Failure) → RunsRequest program requested store mid result → CanFinish result
can_finish program requested store mid result h1 = grind (arith, nat_tests)

-- A run that is finished with the result of its request ends as specified.
pub ends : {Order : Type 0} (program : Program Order) → IsSoundProgram program → (requested : Option Order) (store mid : StoreView)
    (out err : SinkView) (after : Views) (s : Status) (result : Result Product Failure) → RunsRequest program requested store mid result
    → FinishesRun program.name program.usage result (views_of mid out err) after s
    → RunEnds program requested (views_of store out err) after s
ends program sound requested store mid out err after s result runs finishes =
    run_ends program sound requested (views_of store out err) after s
    (finished program requested store mid out err after s result runs finishes)

-- A plan decides, and the outputs of its products have these names.
pub record IsSoundPlan (names : List (List ℕ)) (plan : Plan) : Type 0 where
  pub exact : IsExact plan
  pub outputs : (files : Option Files) (product : ProductValue) → Makes plan files product → output_names product.outputs ≡ names

-- The names of the outputs of a product that is given.
pub named : (product given : ProductValue) → product ≡ given → output_names product.outputs ≡ output_names given.outputs
named product given is = ap (λ (p : ProductValue). output_names p.outputs) is

pub refuses_sound : (names : List (List ℕ)) (text : List ℕ) → IsSoundPlan names (refuses text)
refuses_sound names text = record { exact = tt; outputs = λ files product never. absurd never }

pub accepts_sound : (names : List (List ℕ)) (Is : ProductValue → Type 0)
    → ((product : ProductValue) → Is product → output_names product.outputs ≡ names) → IsSoundPlan names (accepts Is)
accepts_sound names Is are = record { exact = tt; outputs = λ files product is. are product is }

pub satisfies_sound : (names : List (List ℕ)) (Is : Result ProductValue (List ℕ) → Type 0)
    → ((product : ProductValue) → Is (Ok product) → output_names product.outputs ≡ names)
    → ((product : ProductValue) (text : List ℕ) → Is (Ok product) → Is (Err text) → ⊥) → IsSoundPlan names (satisfies Is)
satisfies_sound names Is are apart = record { exact = apart; outputs = λ files product is. are product is }

-- A plan that parses a file and refuses its faults is sound if the plans of all values are.
pub parses_sound : {V F : Type 0} (names : List (List ℕ)) (name : List ℕ) (says : List ℕ → Result V F) (next : Result V F → Plan)
    → ((value : V) → IsSoundPlan names (next (Ok value))) → ((fault : F) → IsSoundPlan names (next (Err fault)))
    → IsSoundPlan names (reads name (λ bytes. next (says bytes)))
parses_sound {V} {F} names name says next ok err = record {
  exact = λ bytes. (each (says bytes)).exact;
  outputs = λ files product makes. (each (says makes.0)).outputs files product makes.2;
}
  where
    each : (result : Result V F) → IsSoundPlan names (next result)
    each (Ok value) = ok value
    each (Err fault) = err fault

-- A program is sound if the plans of all orders are.
pub program_sound : {Order : Type 0} (program : Program Order)
    → ((order : Order) → IsSoundPlan (program.outputs order) (program.plan order)) → IsSoundProgram program
program_sound program h1 = grind (arith, nat_tests)

-- A product of a plan that parses a file is one of the plan for a value of the file.
pub record IsParsedMade {V F : Type 0} (says : List ℕ → Result V F) (name : List ℕ) (next : Result V F → Plan) (files : Option Files)
    (product : ProductValue) : Type 0 where
  pub bytes : List ℕ
  pub content : IsInputContent files name bytes
  pub value : V
  pub is : says bytes ≡ Ok value
  pub made : Makes (next (Ok value)) files product

pub parsed_made : {V F : Type 0} (says : List ℕ → Result V F) (name : List ℕ) (next : Result V F → Plan) (files : Option Files)
    (product : ProductValue) → ((fault : F) → Makes (next (Err fault)) files product → ⊥)
    → Makes (reads name (λ bytes. next (says bytes))) files product → IsParsedMade says name next files product
parsed_made {V} {F} says name next files product refused (bytes, content, made) = by_result (says bytes) refl made
  where
    by_result : (result : Result V F) → says bytes ≡ result → Makes (next result) files product
        → IsParsedMade says name next files product
    by_result (Ok value) is made = record { bytes = bytes; content = content; value = value; is = is; made = made }
    by_result (Err fault) is made = absurd (refused fault made)
