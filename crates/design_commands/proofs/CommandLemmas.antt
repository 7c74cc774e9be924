-- What is proved of each command: its plan decides, and the outputs of its products are the files that it writes.
use Rattle.std.proofs.Common.{◌≡◌, true, false, ℕ, Bool, List, [], ◌∷◌, Option, Some, None, Result, Ok, Err}
use Rattle.design_review.specs.declared.difference.ActDifference.{ActDifference}
use Rattle.design_review.specs.declared.difference.ThreadDifference.{ThreadDifference}
use Rattle.design_review.specs.Differences.{act_difference_of, thread_difference_of}
use Rattle.design_model.specs.Designs.{DesignValue}
use Rattle.design_review.specs.declared.place.DesignPlace.{DesignPlace}
use Rattle.design_review.specs.Places.{places_of}
use Rattle.program_shell.proofs.CallerLemmas.{IsSoundPlan, accepts_sound, ends, named, parses_sound, program_sound, refuses_sound, satisfies_sound}
use Rattle.outside_io.specs.Views.{SinkView, StoreView}
use Rattle.program_shell.specs.ExactPlans.{IsSoundProgram}
use Rattle.program_shell.specs.FinishedRuns.{FinishesRun}
use Rattle.program_shell.specs.ProgramRuns.{RunEnds}
use Rattle.program_shell.specs.RunViews.{Views, views_of}
use Rattle.program_shell.specs.StepOutcomes.{RunsRequest}
use Rattle.program_shell.specs.declared.failure.Failure.{Failure}
use Rattle.program_shell.specs.declared.product.Product.{Product}
use Rattle.program_shell.specs.declared.status.Status.{Status}
use Rattle.design_commands.specs.Commands.{DesignOrder, comparing, design_outputs_of, design_plan_of, editing, listing, looking, passing, stitch_design_after, telling}
use Rattle.design_commands.specs.CompareOrders.{compare_first, compare_second, compared_acts, compared_threads}
use Rattle.program_texts.specs.MistakenWords.{MistakenWord}
use Rattle.program_texts.specs.CompanionUsage.{usage_with}
use Rattle.design_commands.specs.EditOrders.{DesignEditOrder, design_edit_read, edited_design_plan, pictured_by, written_by}
use Rattle.design_commands.specs.DesignOutputs.{IsDesignOutput, IsPicturedOutput, IsUnwritableText, WritesDesign, WritesPictured, has_thumbnails}
use Rattle.edited_designs.specs.declared.design_fault.BadDesignEdit.{BadDesignEdit}
use Rattle.edited_designs.specs.DesignChanges.{draws_thumbnails}
use Rattle.edited_designs.specs.EditedInOrder.{edited_in_order}
use Rattle.format_traits.specs.Meanings.{Meaning}
use Rattle.program_shell.specs.Products.{ProductValue}
use Rattle.design_commands.specs.ReviewOrders.{ReviewOrder, design_look_read, pass_read, passed_by_places}
use Rattle.design_commands.specs.ThreadOrders.{threads_read}
use Rattle.design_commands.specs.Usage.{design_program_name, design_usage_text}

passed_sound : (order : ReviewOrder) (places : List DesignPlace) → IsSoundPlan [] (passed_by_places order places)
passed_sound order [] = accepts_sound [] _ (λ product is. named product _ is)
passed_sound order (p ∷ rest) = refuses_sound [] _

threads_sound : (difference : Option ThreadDifference) → IsSoundPlan [] (compared_threads difference)
threads_sound None = accepts_sound [] _ (λ product is. named product _ is)
threads_sound (Some difference) = refuses_sound [] _

acts_sound : (threads : Bool) (first second : DesignValue) (difference : Option ActDifference)
    → IsSoundPlan [] (compared_acts threads first second difference)
acts_sound threads first second (Some difference) = refuses_sound [] _
acts_sound true first second None = threads_sound (thread_difference_of first second)
acts_sound false first second None = accepts_sound [] _ (λ product is. named product _ is)

-- A design is written or refused, never both.
not_both : (output : List ℕ) (target : Meaning) (d : DesignValue) (product : ProductValue) (text : List ℕ)
    → IsDesignOutput output target d product → IsUnwritableText output target d text → ⊥
not_both output target d product text made none =
    let written : target.writes d ≡ Ok made.out = made.written in
    let refused : target.writes d ≡ Err none.fault = none.refuses in
    cc

never_both : (output : List ℕ) (target : Meaning) (d : DesignValue) (product : ProductValue) (text : List ℕ)
    → IsPicturedOutput output target d product → IsUnwritableText output target d text → ⊥
never_both output target d product text made none =
    let written : target.writes d ≡ Ok made.out = made.written in
    let refused : target.writes d ≡ Err none.fault = none.refuses in
    cc

pictured_sound : (has : Bool) (output : List ℕ) (target : Meaning) (d : DesignValue)
    → IsSoundPlan (output ∷ []) (pictured_by has output target d)
pictured_sound true output target d = satisfies_sound (output ∷ []) (WritesPictured output target d)
    (λ product is. named product _ is.made) (λ product text made none. never_both output target d product text made none)
pictured_sound false output target d = refuses_sound (output ∷ []) _

written_sound : (drawn : Bool) (output : List ℕ) (target : Meaning) (d : DesignValue)
    → IsSoundPlan (output ∷ []) (written_by drawn output target d)
written_sound true output target d = pictured_sound (has_thumbnails target) output target d
written_sound false output target d = satisfies_sound (output ∷ []) (WritesDesign output target d)
    (λ product is. named product _ is.made) (λ product text made none. not_both output target d product text made none)

edited_sound : (order : DesignEditOrder) (edited : Result DesignValue BadDesignEdit)
    → IsSoundPlan (order.output ∷ []) (edited_design_plan order edited)
edited_sound order (Ok d) = written_sound (draws_thumbnails order.changes) order.output order.target d
edited_sound order (Err bad) = refuses_sound (order.output ∷ []) _

-- The plan of each order is sound.
order_sound : (order : DesignOrder) → IsSoundPlan (design_outputs_of order) (design_plan_of order)
order_sound (looking order) = parses_sound [] order.file order.format.reads (design_look_read order)
    (λ loaded. accepts_sound [] _ (λ product is. named product _ is)) (λ fault. refuses_sound [] _)
order_sound (passing order) = parses_sound [] order.file order.format.reads (pass_read order)
    (λ loaded. passed_sound order (places_of order.limits loaded.design)) (λ fault. refuses_sound [] _)
order_sound (editing order) = parses_sound (order.output ∷ []) order.input order.source.reads (design_edit_read order)
    (λ loaded. edited_sound order (edited_in_order 1 order.changes loaded.design)) (λ fault. refuses_sound (order.output ∷ []) _)
order_sound (comparing order) = parses_sound [] order.first order.first_format.reads (compare_first order)
    (λ loaded. parses_sound [] order.second order.second_format.reads (compare_second order loaded.design)
    (λ other. acts_sound order.threads loaded.design other.design (act_difference_of loaded.design other.design))
    (λ fault. refuses_sound [] _)) (λ fault. refuses_sound [] _)
order_sound (listing order) = parses_sound [] order.file order.format.reads (threads_read order)
    (λ loaded. accepts_sound [] _ (λ product is. named product _ is)) (λ fault. refuses_sound [] _)
order_sound (telling text) = accepts_sound [] _ (λ product is. named product _ is)

-- The program is sound.
pub design_sound : (mistake : Option MistakenWord) → IsSoundProgram (stitch_design_after mistake)
design_sound mistake = program_sound (stitch_design_after mistake) order_sound

-- A run that is finished with the result of its request, and with the usage text after a mistake, ends as specified.
pub design_ends : (mistake : Option MistakenWord) (requested : Option DesignOrder) (store mid : StoreView) (out err : SinkView)
    (after : Views) (s : Status) (result : Result Product Failure)
    → ((m : Option MistakenWord) → RunsRequest (stitch_design_after m) requested store mid result)
    → FinishesRun design_program_name (usage_with design_program_name design_usage_text mistake) result (views_of mid out err) after s
    → RunEnds (stitch_design_after mistake) requested (views_of store out err) after s
design_ends mistake requested store mid out err after s result runs finishes =
    ends (stitch_design_after mistake) (design_sound mistake) requested store mid out err after s result (runs mistake) finishes
