-- Runs over formats that are the five, and formats at places of a list.
use Rattle.std.proofs.Common.{◌≡◌, ℕ, zero, suc, ◌<◌, List, [], ◌∷◌, Option, Some, Result, length, map, slice_get, ap, arith, refl, subst, ◌∙◌}
use Rattle.std.specs.Option.{option_and_then}
use Rattle.program_texts.specs.MistakenWords.{MistakenWord}
use Rattle.format_traits.specs.Endings.{format_index, format_of}
use Rattle.outside_io.specs.Views.{StoreView}
use Rattle.program_shell.specs.StepOutcomes.{RunsPlan, RunsRequest}
use Rattle.program_shell.specs.declared.failure.Failure.{Failure}
use Rattle.program_shell.specs.declared.product.Product.{Product}
use Rattle.format_traits.specs.Meanings.{Meaning}
use Rattle.program_shell.specs.declared.status.Status.{Status}
use Rattle.program_shell.specs.ProgramRuns.{RunEnds}
use Rattle.program_shell.specs.RunViews.{Views}
use Rattle.design_commands.specs.Commands.{DesignOrder, design_mistake, design_order, design_plan_of, if_both_known, stitch_design_after}

-- A run over some formats is one over those that they are.
pub over_formats : (formats known : List Meaning) (words : List (List ℕ)) (before after : Views) (s : Status) → formats ≡ known
    → RunEnds (stitch_design_after (design_mistake formats words)) (design_order formats words) before after s
    → RunEnds (stitch_design_after (design_mistake known words)) (design_order known words) before after s
over_formats formats known words before after s is runs = subst (λ (fs : List Meaning).
    RunEnds (stitch_design_after (design_mistake fs words)) (design_order fs words) before after s) is runs

-- The element at an index of a list.
at_place : {A : Type 0} (f : A → Meaning) (xs : List A) (place : ℕ) → place < length xs
    → (m : Meaning) × (slice_get (map f xs) place ≡ Some m)
at_place f [] place there = absurd (let no : ⊥ = omega (arith, there) in no)
at_place f (x ∷ xs) zero there = (f x, refl)
at_place f (x ∷ xs) (suc place) there = at_place f xs place (omega (arith, there))

-- An order of two files whose formats are found is that of these formats.
pub both_found : {A : Type 0} (f : A → Meaning) (xs : List A) (first second : List ℕ) (made : Meaning → Meaning → DesignOrder)
    (one other : ℕ) (mistake : Option MistakenWord) (store store' : StoreView) (result : Result Product Failure)
    → format_index (map f xs) first ≡ Some one → format_index (map f xs) second ≡ Some other → one < length xs → other < length xs
    → ((s t : Meaning) → slice_get (map f xs) one ≡ Some s → slice_get (map f xs) other ≡ Some t
    → RunsPlan (design_plan_of (made s t)) store store' result)
    → RunsRequest (stitch_design_after mistake)
    (if_both_known made (format_of (map f xs) first) (format_of (map f xs) second)) store store' result
both_found f xs first second made one other mistake store store' result found_one found_other in_one in_other prepares =
    let s = at_place f xs one in_one in
    let t = at_place f xs other in_other in
    let is_one : format_of (map f xs) first ≡ Some s.0 = ap (option_and_then (λ place. slice_get (map f xs) place)) found_one ∙ s.1 in
    let is_other : format_of (map f xs) second ≡ Some t.0 =
    ap (option_and_then (λ place. slice_get (map f xs) place)) found_other ∙ t.1 in
    rw (is_one, is_other) (prepares s.0 t.0 s.1 t.1)
