-- The outcome of a run, before it is told apart by status.
use Rattle.std.proofs.Common.{◌≡◌, ℕ, List, Option, Some, None, Ok, Err, Result, refl, subst, sym}
use Rattle.program_shell.proofs.Names.{SinkView, StoreView, Failure, Product, Status, Makes, Plan, ProductValue, Program, ReportsLineWithStatus, Views, views_of, Delivers, FinishesRun, ReportsFailure, failure_line, IsFailureOf, RunsRequest, status_of, product_value, IsPlanResult}
use Rattle.program_shell.specs.declared.failure.Failure.TheVariants as failure

-- The outcome of a plan: a product of it is delivered, or a failure of it is reported.
pub data IsPlanOutcome (program usage : List ℕ) (plan : Plan) (before after : Views) (s : Status) : Type 0 where
  made : (product : ProductValue) → Makes plan before.store.files product → Delivers program product before after s
      → IsPlanOutcome program usage plan before after s
  halted : (why : Failure) → IsFailureOf plan before.store after.store why → after.out ≡ before.out
      → ReportsLineWithStatus (failure_line program usage why) (status_of why) before.err after.err s
      → IsPlanOutcome program usage plan before after s

-- The outcome of a run, for the requested order or none.
abbrev pub IsRunOutcome : {Order : Type 0} → Program Order → Option Order → Views → Views → Status → Type 0
IsRunOutcome program None before after s = ReportsFailure program.name program.usage failure.BadArguments before after s
IsRunOutcome program (Some order) before after s = IsPlanOutcome program.name program.usage (program.plan order) before after s

-- A run is finished with the result of its request.
pub finished : {Order : Type 0} (program : Program Order) (requested : Option Order) (store mid : StoreView) (out err : SinkView)
    (after : Views) (s : Status) (result : Result Product Failure) → RunsRequest program requested store mid result
    → FinishesRun program.name program.usage result (views_of mid out err) after s
    → IsRunOutcome program requested (views_of store out err) after s
finished program None store mid out err after s (Ok product) (never, same) finishes = absurd (let no : ⊥ = cc in no)
finished program (Some order) store mid out err after s (Ok product) runs delivers = delivered runs.is
  where
    delivered : IsPlanResult (program.plan order) store mid (Ok product)
        → IsRunOutcome program (Some order) (views_of store out err) after s
    delivered (makes, fit, same) = made (product_value product) makes
        (subst (λ (t : StoreView). Delivers program.name (product_value product) (views_of t out err) after s) same delivers)
finished program None store mid out err after s (Err why) (is, same) finishes =
    subst (λ (w : Failure). ReportsFailure program.name program.usage w (views_of store out err) after s) (unasked (Err why) refl is)
    (subst (λ (t : StoreView). ReportsFailure program.name program.usage why (views_of t out err) after s) same finishes)
  where
    unasked : (r : Result Product Failure) → r ≡ Err why → r ≡ Err failure.BadArguments → why ≡ failure.BadArguments
    unasked r one other = cc
finished program (Some order) store mid out err after s (Err why) runs finishes =
    halted why (subst (λ (t : StoreView). IsFailureOf (program.plan order) store t why) (sym finishes.store) runs.is) finishes.out
    finishes.line
